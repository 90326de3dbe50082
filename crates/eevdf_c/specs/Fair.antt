-- What becomes of the bounds beside a queue through C.
use Rattle.std.specs.Prelude.{ℕ, ℤ, pos, int_lt, if◌then◌else◌, Option, Some, None}
use Rattle.std.specs.Option.{option_map}
use Rattle.std.specs.FinMap as map
use Rattle.eevdf_weight.specs.Limits.{checked_tick}
use Rattle.eevdf_queue.specs.{declared.entry.Entry.Entry, State.State, State.Contents, Numbers.checked_number, Pick.pick_of}
use Rattle.eevdf_queue.specs.Tick as ticks
use Rattle.eevdf_queue.specs.Rebase as rebases
use Rattle.eevdf_fair_queue.specs.{declared.bounds.Bounds.Bounds, declared.bounds.Mark.Mark}
use Rattle.eevdf_fair_queue.specs.Bounds as bounds
use Rattle.eevdf_fair_queue.specs.Fair.{charged_by, mark_of}
use Rattle.eevdf_c.specs.Hands as hands
use Rattle.eevdf_c.specs.{Codes.invalid, Found.found_code, Found.found_or}

-- a turn begins where a task is picked
abbrev pub picked_by : Bounds → Option ℕ → Bounds
picked_by b None = b
picked_by b (Some task) = bounds.picked b

abbrev pub pick : Bounds → State → Bounds
pick b q = picked_by b (pick_of q.runnable)

abbrev pub run_by : Bounds → State → Option ℕ → Bounds
run_by b q None = b
run_by b q (Some task) = bounds.adopted b (map.contains_key q.runnable task)

-- a task runs that no pick chose
abbrev pub run : Bounds → State → ℕ → Bounds
run b q number = run_by b q (checked_number number)

-- a tick of so many nanoseconds was answered so, and this is the entry that whoever runs had before it
abbrev pub charged_with : Bounds → ℤ → ℕ → Option Entry → Bounds
charged_with b answer ns runner = if int_lt answer (pos 0) then b else bounds.charged_from b ns runner

abbrev pub tick_by : Bounds → State → Option ℕ → Bounds
tick_by b q None = b
tick_by b q (Some ns) = charged_by b ns (ticks.tick q ns).0 (ticks.tick q ns).1

-- whoever runs is charged
abbrev pub tick : Bounds → State → ℕ → Bounds
tick b q ns = tick_by b q (checked_tick ns)

abbrev pub rebase : Bounds → State → Bounds
rebase b q = bounds.lowered b (rebases.rebase q).0

-- a call that touches a task has answered so: where the task stands now, beside the mark of before
abbrev pub settled_with : Bounds → ℤ → Option Mark → Option Entry → Bounds
settled_with b answer mark now = if int_lt answer (pos 0) then b else bounds.settled b mark now

abbrev pub settled_of : Bounds → State → ℕ → ℤ → State → Bounds
settled_of b q task answer after = settled_with b answer (mark_of q task) (map.get after.runnable task)

abbrev pub settled_by : Bounds → State → Option ℕ → ℤ → State → Bounds
settled_by b q None answer after = b
settled_by b q (Some task) answer after = settled_of b q task answer after

-- the same of the task that has a number
abbrev pub settled : Bounds → State → ℕ → ℤ × State → Bounds
settled b q number outcome = settled_by b q (checked_number number) outcome.0 outcome.1

-- the task of a hand becomes runnable
abbrev pub put : Bounds → State → Option Contents → Bounds
put b q None = b
put b q (Some p) = settled_of b q p.task (hands.put q (Some p)).answer (hands.put q (Some p)).queue

abbrev pub lateness_by : State → Option ℕ → ℤ
lateness_by q None = invalid
lateness_by q (Some task) = found_code (map.get q.runnable task)

-- what a question answers for how late a task can be
abbrev pub lateness : State → ℕ → ℤ
lateness q number = lateness_by q (checked_number number)

abbrev pub told_lateness_by : Bounds → State → ℤ → Option ℕ → ℤ
told_lateness_by b q other None = other
told_lateness_by b q other (Some task) = found_or other (option_map (λ e. bounds.late_by b e.d) (map.get q.runnable task))

-- what stands afterwards where that is to be written
abbrev pub told_lateness : Bounds → State → ℤ → ℕ → ℤ
told_lateness b q other number = told_lateness_by b q other (checked_number number)
