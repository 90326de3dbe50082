use Rattle.std.proofs.Common.{◌+◌, ◌*◌, length}
use Rattle.eevdf_queue.specs.TreeShape.{tasks_in}
use Rattle.eevdf_queue.proofs.tree.node.lowering.+lower.Given as goal

abbrev pub decreases-lower : goal.decreases-lower
decreases-lower l = 2 * length (tasks_in l.link.now) + 1

abbrev pub decreases-lower_node : goal.decreases-lower_node
decreases-lower_node l = 2 * length l.node.now.tasks
