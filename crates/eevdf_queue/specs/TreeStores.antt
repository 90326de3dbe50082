-- What the stores over trees keep.
use Rattle.std.specs.Prelude.{◌≡◌, ◌<◌, ◌≤◌, ◌+ℤ◌, ◌*ℤ◌, ℕ, ℤ, pos, List, Some, length, slice_index_or}
use Rattle.std.specs.{Option.option_map, List.AllByRecursion, FinMap.get}
use Rattle.eevdf_queue.specs.{declared.tree.picked_task.PickedTask.PickedTask, declared.task.Task.Task, declared.tree.totals.Totals.Totals, declared.tree.key.TreeKey.TreeKey}
use Rattle.eevdf_queue.specs.{Numbers.number_limit, Sums.sum_weights, Sums.sum_moments}
use Rattle.eevdf_queue.specs.TaskLists.{find_task, entries_of, runnable_in, AreRunnable}
use Rattle.eevdf_queue.specs.{Pick.pick_of, NodeDepths.depths_by_number, TreeShape.IsFull, TreeShape.Tree}

-- what a table of deadlines keeps of a number
abbrev pub kept_at : List ℤ → ℕ → ℤ
kept_at table q = slice_index_or table q (pos 0)

-- as what it keeps a deadline: never as 0, which it keeps of a number without a task
abbrev pub noted : ℤ → ℤ
noted d = (d *ℤ pos 2) +ℤ pos 1

-- the table keeps the task's deadline
abbrev pub IsNoted : List ℤ → Task → Type 0
IsNoted table t = kept_at table t.number ≡ noted t.entry.d

-- a key has the deadline that the table keeps of its number, where it keeps one
abbrev pub IsKeyIn : List ℤ → TreeKey → Type 0
IsKeyIn table k = (d : ℤ) → kept_at table k.number ≡ noted d → k.deadline ≡ d

-- the tasks are runnable ones, and the table says where they stand
pub record IsRunnableStore (table : List ℤ) (ts : List Task) : Type 0 where
  pub runnable : AreRunnable ts
  pub noted : AllByRecursion (IsNoted table) ts

-- the sums are those over the tasks
pub record AreTotals (s : Totals) (ts : List Task) : Type 0 where
  pub weight : s.weight ≡ sum_weights (entries_of ts)
  pub moment : s.moment ≡ sum_moments (entries_of ts)

-- the same, and the sums stand beside the tasks
pub record IsSummedStore (table : List ℤ) (s : Totals) (ts : List Task) : Type 0 where
  pub store : IsRunnableStore table ts
  pub totals : AreTotals s ts

-- an entry but for its deadline
abbrev pub timeless : Task → ℤ × ℤ × ℕ
timeless t = (t.entry.v, t.entry.nice, t.entry.slice)

abbrev pub picked_timeless : PickedTask → ℤ × ℤ × ℕ
picked_timeless p = (p.runtime, p.nice, p.slice)

-- where the entry of the task that was picked last is known, it is the task's
abbrev pub IsKnown : PickedTask → List Task → Type 0
IsKnown p ts = p.number < number_limit → option_map timeless (find_task p.number ts) ≡ Some (picked_timeless p)

-- while the depth of its node is kept, the task that was picked last is the pick, and this is the depth of its
-- node, which is low
pub record IsPickAt (task deep : ℕ) (tree : Tree) : Type 0 where
  pub pick : pick_of (runnable_in tree.tasks) ≡ Some task
  pub depth : get (depths_by_number tree.depths) task ≡ Some deep
  pub low : IsFull deep (length tree.tasks)

abbrev pub IsStillPick : PickedTask → Tree → Type 0
IsStillPick p tree = p.number < number_limit → 1 ≤ p.depth → IsPickAt p.number p.depth tree

-- all of it
pub record IsRunnableTasks (table : List ℤ) (s : Totals) (p : PickedTask) (tree : Tree) : Type 0 where
  pub store : IsRunnableStore table tree.tasks
  pub totals : AreTotals s tree.tasks
  pub picked : IsKnown p tree.tasks
  pub pick : IsStillPick p tree
