use Rattle.std.proofs.Common.{◌≡◌, ◌≤◌, Some, length}
use Rattle.std.specs.Option.{unwrap_or}
use Rattle.eevdf_queue.specs.{TreeShape.tasks_in, TreeTasks.last_waiting}
use Rattle.eevdf_queue.proofs.TreeLast.{last_seen}
use Rattle.eevdf_queue.proofs.tree.node.+last_waiting.Given as goal

abbrev pub decreases-last_waiting : goal.decreases-last_waiting
decreases-last_waiting l = length (tasks_in l.link.now)

abbrev pub invariant-down : goal.invariant-down
invariant-down l =
    (Some (unwrap_or (last_waiting (Some l.running) (tasks_in l.link)) l.fn.before) ≡ last_seen (Some l.last) (Some l.running) (tasks_in l.at))
    × (length (tasks_in l.at) ≤ length (tasks_in l.link))

abbrev pub decreases-down : goal.decreases-down
decreases-down l = length (tasks_in l.at)
