use Rattle.std.proofs.Common.{length}
use Rattle.eevdf_queue.specs.TreeShape.{tasks_in}
use Rattle.eevdf_queue.proofs.tree.node.edit.+remove.Given as goal

abbrev pub decreases-remove : goal.decreases-remove
decreases-remove l = length (tasks_in l.link.now)
