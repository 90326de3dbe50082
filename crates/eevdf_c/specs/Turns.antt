-- Calls about who runs: what each answers, and the state afterwards.
use Rattle.std.specs.Prelude.{ℕ, ℤ, pos, if◌then◌else◌, Option, Some, None}
use Rattle.std.specs.FinMap as map
use Rattle.eevdf_queue.specs.{State.State, Numbers.checked_number, Pick.pick_of, Pick.after_pick, Pick.adopted, Leaving.nobody_runs}
use Rattle.eevdf_c.specs.Codes.{done, absent, invalid}

-- the number of a task, where there is one
abbrev pub task_code : Option ℕ → ℤ
task_code None = absent
task_code (Some task) = pos task

abbrev pub pick : State → ℤ × State
pick q = (task_code (pick_of q.runnable), after_pick q)

-- who a pick would let run
abbrev pub peek : State → ℤ
peek q = task_code (pick_of q.runnable)

abbrev pub run_by : State → Option ℕ → ℤ × State
run_by q None = (invalid, q)
run_by q (Some task) = (if map.contains_key q.runnable task then done else absent, adopted q task)

-- a task runs that no pick chose
abbrev pub run : State → ℕ → ℤ × State
run q number = run_by q (checked_number number)

abbrev pub stop : State → ℤ × State
stop q = (task_code q.running, nobody_runs q)

abbrev pub running : State → ℤ
running q = task_code q.running
