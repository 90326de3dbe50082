use Rattle.std.proofs.Common.{◌≡◌, length}
use Rattle.eevdf_queue.specs.{TaskLists.find_task, TreeShape.tasks_in, TreeTasks.AreOrdered, TreeTasks.IsAtDeadline}
use Rattle.eevdf_queue.proofs.tree.node.find.Given as goal

abbrev pub invariant-down : goal.invariant-down
invariant-down l =
    AreOrdered (tasks_in l.at)
    × (IsAtDeadline l.key.deadline (find_task l.key.number (tasks_in l.at))
    × (find_task l.key.number (tasks_in l.link) ≡ find_task l.key.number (tasks_in l.at)))

abbrev pub decreases-down : goal.decreases-down
decreases-down l = length (tasks_in l.at)
