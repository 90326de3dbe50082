use Rattle.std.proofs.Common.{length}
use Rattle.eevdf_queue.specs.TreeShape.{tasks_in}
use Rattle.eevdf_queue.proofs.tree.node.ageing.+age_least.Given as goal

abbrev pub decreases-age_least : goal.decreases-age_least
decreases-age_least l = length (tasks_in l.link.now)
