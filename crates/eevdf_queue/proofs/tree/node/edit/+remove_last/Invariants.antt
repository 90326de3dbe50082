use Rattle.std.proofs.Common.{length}
use Rattle.eevdf_queue.specs.TreeShape.{tasks_in}
use Rattle.eevdf_queue.proofs.tree.node.edit.+remove_last.Given as goal

abbrev pub decreases-remove_last : goal.decreases-remove_last
decreases-remove_last l = length (tasks_in l.link.now)
