-- Tasks taken out one by one, until none is left.
use Rattle.std.specs.Prelude.{◌≡◌, ℕ, ◌+◌, List, [], ◌∷◌, Option, Some, None}
use Rattle.std.specs.FinMap as map
use Rattle.eevdf_queue.specs.{State.State, State.Contents, Pick.pick_of, Ascending.sleeping_tasks}
use Rattle.eevdf_queue.specs.Leaving.{carried, leave, carried_asleep, leave_asleep}

abbrev pub first_number : {X : Type 0} → List (ℕ × X) → Option ℕ
first_number [] = None
first_number (e ∷ es) = Some e.0

abbrev pub take_sleeper : State → Option ℕ → Option Contents × State
take_sleeper q None = (None, q)
take_sleeper q (Some task) = (carried_asleep q task, leave_asleep q task)

abbrev pub take_first : State → Option ℕ → Option Contents × State
take_first q None = take_sleeper q (first_number (sleeping_tasks q))
take_first q (Some task) = (carried q task, leave q task)

-- the task that would be picked; where none is runnable, the sleeping one of lowest number
abbrev pub take_any : State → Option Contents × State
take_any q = take_first q (pick_of q.runnable)

-- no task is here
abbrev pub IsWithoutTasks : State → Type 0
IsWithoutTasks q = (q.runnable ≡ map.empty) × (q.asleep ≡ map.empty)

-- how many tasks are here, runnable and asleep
abbrev pub task_count : State → ℕ
task_count q = map.len q.runnable + map.len q.asleep
