-- A yield: the running task's deadline grows by one request, and it runs on until the next pick.
use Rattle.std.specs.Prelude.{ℕ, pos, ◌+ℤ◌, if◌then◌else◌, Option, Some, None}
use Rattle.std.specs.FinMap as map
use Rattle.eevdf_weight.specs.Limits.{is_in_range}
use Rattle.eevdf_queue.specs.{declared.entry.Entry.Entry, declared.answers.YieldAnswer.YieldAnswer, State.State}
use Rattle.eevdf_queue.specs.Moves.{request_of}
use Rattle.eevdf_queue.specs.declared.answers.YieldAnswer.TheVariants.{Yielded, Idle, Range}

-- the entry with a deadline one request later
abbrev pub yielded : Entry → Entry
yielded e = record e { d = e.d +ℤ pos (request_of e.nice e.slice) }

abbrev pub yield_to : State → ℕ → Entry → YieldAnswer × State
yield_to q task e =
    if is_in_range e.d then (Yielded, record q { runnable = map.insert q.runnable task e }) else (Range, q)

abbrev pub yield_entry : State → ℕ → Option Entry → YieldAnswer × State
yield_entry q task None = (Idle, q)
yield_entry q task (Some e) = yield_to q task (yielded e)

abbrev pub yield_running : State → Option ℕ → YieldAnswer × State
yield_running q None = (Idle, q)
yield_running q (Some task) = yield_entry q task (map.get q.runnable task)

-- the deed: what is answered, and the state afterwards
abbrev pub yield_now : State → YieldAnswer × State
yield_now q = yield_running q q.running
