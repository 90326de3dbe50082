use Rattle.eevdf_fair_queue.proofs.Leavings.{leavings_keep_bounds}
use Rattle.eevdf_fair_queue.proofs.laws.leavings_keep_bounds.Goals as goal

pub returns : goal.returns
returns c = leavings_keep_bounds
