use Rattle.eevdf_balance.proofs.FewPulls.{pulls_are_few}
use Rattle.eevdf_balance.proofs.laws.pulls_are_few.Goals as goal

pub returns : goal.returns
returns c = pulls_are_few
