-- Tasks in a list whose virtual times are lowered by one number.
use Rattle.std.specs.Prelude.{◌^◌, ◌≤◌, ℤ, Bool, true, ◌&&◌, unsigned_abs, List, [], ◌∷◌, Option, Some, None}
use Rattle.eevdf_queue.specs.{declared.task.Task.Task, Moves.is_entry_in_range, Rebase.lowered_entry, TreeStores.noted}

abbrev pub lowered_task : ℤ → Task → Task
lowered_task by t = record t { entry = lowered_entry by t.entry }

abbrev pub lowered_list : ℤ → List Task → List Task
lowered_list by [] = []
lowered_list by (t ∷ ts) = lowered_task by t ∷ lowered_list by ts

-- each virtual runtime and deadline is in range
abbrev pub are_tasks_in_range : List Task → Bool
are_tasks_in_range [] = true
are_tasks_in_range (t ∷ ts) = is_entry_in_range t.entry && are_tasks_in_range ts

-- a task that can be lowered once more
abbrev pub IsNear : Task → Type 0
IsNear t = (unsigned_abs t.entry.v ≤ 2 ^ 61) × (unsigned_abs t.entry.d ≤ 2 ^ 61)

-- as what the deadline of a task that was found is kept, or else what was kept before
abbrev pub noted_or : ℤ → Option Task → ℤ
noted_or kept None = kept
noted_or kept (Some t) = noted t.entry.d
