use Rattle.std.proofs.Common.{◌≡◌, None, length}
use Rattle.std.specs.Option.{option_map}
use Rattle.eevdf_queue.specs.{TreeShape.tasks_in, TreeTasks.last_waiting}
use Rattle.eevdf_queue.proofs.TreeLast.{last_seen}
use Rattle.eevdf_queue.proofs.tree.node.last_task.Given as goal

abbrev pub invariant-down : goal.invariant-down
invariant-down l = last_waiting None (tasks_in l.link) ≡ last_seen (option_map (λ t. t.now) l.last) None (tasks_in l.at)

abbrev pub decreases-down : goal.decreases-down
decreases-down l = length (tasks_in l.at)
