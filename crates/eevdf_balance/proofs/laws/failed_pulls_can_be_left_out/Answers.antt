use Rattle.eevdf_balance.proofs.FailedPulls.{failed_pulls_can_be_left_out}
use Rattle.eevdf_balance.proofs.laws.failed_pulls_can_be_left_out.Goals as goal

pub returns : goal.returns
returns c = failed_pulls_can_be_left_out
