use Rattle.std.proofs.Common.{length}
use Rattle.eevdf_queue.specs.TreeShape.{tasks_in}
use Rattle.eevdf_queue.proofs.tree.node.ageing.+age.Given as goal

abbrev pub decreases-age : goal.decreases-age
decreases-age l = length (tasks_in l.link.now)
