-- Keys against tasks, and lists of tasks that hold a key.
use Rattle.std.specs.Prelude.{◌≡◌, ℤ, ◌≤◌, ◌^◌, true, Some, List, length, is_some, nat_eq, nat_lt, int_lt, Bool, ◌&&◌, ◌||◌, not}
use Rattle.std.specs.Option.{option_map}
use Rattle.eevdf_queue.specs.{declared.entry.Entry.Entry, declared.task.Task.Task, declared.tree.key.TreeKey.TreeKey}
use Rattle.eevdf_queue.specs.{TaskLists.find_task, TaskLists.set_entry, TreeTasks.AreOrdered, TreeTasks.IsAtDeadline}

-- the key is a task's own
abbrev pub is_of : TreeKey → Task → Bool
is_of k t = not (int_lt k.deadline t.entry.d) && (not (int_lt t.entry.d k.deadline) && nat_eq k.number t.number)

-- the key comes before a task's
abbrev pub is_under : TreeKey → Task → Bool
is_under k t = int_lt k.deadline t.entry.d || (not (int_lt t.entry.d k.deadline) && nat_lt k.number t.number)

-- the keys rise, and the task of the key's number is here, at the key
pub record Holds (k : TreeKey) (ts : List Task) : Type 0 where
  pub ordered : AreOrdered ts
  pub few : length ts ≤ 2 ^ 20
  pub here : is_some (find_task k.number ts) ≡ true
  pub placed : IsAtDeadline k.deadline (find_task k.number ts)

-- the key's task has this virtual runtime, and nothing else has changed
abbrev pub IsAged : TreeKey → ℤ → List Task → List Task → Type 0
IsAged k v ts us = (e : Entry) → option_map (λ t. record t.entry { v = v }) (find_task k.number ts) ≡ Some e → us ≡ set_entry k.number e ts
