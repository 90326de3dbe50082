use Rattle.std.proofs.Common.{length}
use Rattle.eevdf_queue.specs.TreeShape.{tasks_in}
use Rattle.eevdf_queue.proofs.tree.node.edit.+insert.Given as goal

abbrev pub decreases-insert : goal.decreases-insert
decreases-insert l = length (tasks_in l.link.now)
