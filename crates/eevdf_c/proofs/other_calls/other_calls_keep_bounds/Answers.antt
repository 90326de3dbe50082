use Rattle.eevdf_c.proofs.OtherCalls.{other_calls_keep_bounds}
use Rattle.eevdf_c.proofs.other_calls.other_calls_keep_bounds.Goals as goal

pub returns : goal.returns
returns c = other_calls_keep_bounds c.leavings_keep_bounds.ensures
