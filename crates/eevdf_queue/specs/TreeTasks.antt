-- Lists of tasks by key: the deadline first, then the number.
use Rattle.std.specs.Prelude.{◌≡◌, ℕ, ◌==◌, ◌≤◌, ℤ, Bool, true, List, [], ◌∷◌, length, if◌then◌else◌, Option, Some, None}
use Rattle.std.specs.List.{AllByRecursion}
use Rattle.eevdf_queue.specs.{declared.entry.Entry.Entry, declared.task.Task.Task, Order.is_before, Candidate.is_running, TaskLists.first_with, Numbers.number_limit}

-- the earlier key
abbrev pub precedes : Task → Task → Bool
precedes t u = is_before (t.number, t.entry) (u.number, u.entry)

-- a task precedes others
abbrev pub PrecedesAll : Task → List Task → Type 0
PrecedesAll t = AllByRecursion (λ u. precedes t u ≡ true)

-- the keys rise
abbrev pub AreOrdered : List Task → Type 0
AreOrdered [] = Unit {0}
AreOrdered (t ∷ ts) = PrecedesAll t ts × AreOrdered ts

-- a task put before the first that it precedes
abbrev pub insert_task : Task → List Task → List Task
insert_task t [] = t ∷ []
insert_task t (u ∷ us) = if precedes t u then t ∷ u ∷ us else u ∷ insert_task t us

-- the tasks without the first of a number
abbrev pub without : ℕ → List Task → List Task
without q [] = []
without q (t ∷ ts) = if t.number == q then ts else t ∷ without q ts

-- the first whose entry passes a test
abbrev pub first_that : (Entry → Bool) → List Task → Option Task
first_that passes = first_with (λ t. passes t.entry)

-- the last that isn't the running one, if none of the tasks behind one is it
abbrev pub last_or : Task → Option ℕ → Option Task → Option Task
last_or t running (Some u) = Some u
last_or t running None = if is_running running t.number then None else Some t

-- the last that isn't the running one
abbrev pub last_waiting : Option ℕ → List Task → Option Task
last_waiting running [] = None
last_waiting running (t ∷ ts) = last_or t running (last_waiting running ts)

-- the task, where there is one, has this deadline
abbrev pub IsAtDeadline : ℤ → Option Task → Type 0
IsAtDeadline d None = Unit {0}
IsAtDeadline d (Some t) = t.entry.d ≡ d

-- a task by its number and entry
abbrev pub numbered_entry : Task → ℕ × Entry
numbered_entry t = (t.number, t.entry)

-- the keys rise, and the tasks are no more than there are numbers
pub record IsSorted (ts : List Task) : Type 0 where
  pub ordered : AreOrdered ts
  pub few : length ts ≤ number_limit

-- the same, and the count is right
pub record IsCounted (count : ℕ) (ts : List Task) : Type 0 where
  pub sorted : IsSorted ts
  pub counted : count ≡ length ts
