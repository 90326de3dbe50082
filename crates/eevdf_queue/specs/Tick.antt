-- A tick: the running task is charged, and renewed where it has used up its request.
use Rattle.std.specs.Prelude.{ℕ, ℤ, pos, ◌+ℤ◌, Bool, int_le, if◌then◌else◌, Option, Some, None}
use Rattle.std.specs.FinMap as map
use Rattle.eevdf_weight.specs.{Weight.weight_of, Charge.charge_of}
use Rattle.eevdf_queue.specs.{declared.entry.Entry.Entry, declared.answers.TickAnswer.TickAnswer, State.State}
use Rattle.eevdf_queue.specs.{Moves.fresh_entry, Moves.is_entry_in_range}
use Rattle.eevdf_queue.specs.declared.answers.TickAnswer.TheVariants.{Charged, Idle, Range}

-- the entry of whoever runs
abbrev pub entry_of_runner : State → Option ℕ → Option Entry
entry_of_runner q None = None
entry_of_runner q (Some task) = map.get q.runnable task

abbrev pub running_entry : State → Option Entry
running_entry q = entry_of_runner q q.running

-- the virtual runtime after so many nanoseconds
abbrev pub aged : Entry → ℕ → ℤ
aged e ns = e.v +ℤ pos (charge_of ns (weight_of e.nice))

-- the request is used up: the virtual runtime reaches the deadline
abbrev pub is_used_up : Entry → ℕ → Bool
is_used_up e ns = int_le e.d (aged e ns)

-- the entry afterwards: a fresh request where the old one is used up, else the old deadline
abbrev pub charged : Entry → ℕ → Entry
charged e ns = if is_used_up e ns then fresh_entry (aged e ns) e.nice e.slice else record e { v = aged e ns }

abbrev pub tick_to : State → ℕ → Bool → Entry → TickAnswer × State
tick_to q task resched e =
    if is_entry_in_range e then (Charged task resched, record q { runnable = map.insert q.runnable task e })
    else (Range, q)

abbrev pub tick_entry : State → ℕ → Option Entry → ℕ → TickAnswer × State
tick_entry q task None ns = (Idle, q)
tick_entry q task (Some e) ns = tick_to q task (is_used_up e ns) (charged e ns)

abbrev pub tick_running : State → Option ℕ → ℕ → TickAnswer × State
tick_running q None ns = (Idle, q)
tick_running q (Some task) ns = tick_entry q task (map.get q.runnable task) ns

-- the deed: what is answered, and the state afterwards
abbrev pub tick : State → ℕ → TickAnswer × State
tick q ns = tick_running q q.running ns
