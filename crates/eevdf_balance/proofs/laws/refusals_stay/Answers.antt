use Rattle.eevdf_balance.proofs.AfterLastPull.{refusals_stay}
use Rattle.eevdf_balance.proofs.laws.refusals_stay.Goals as goal

pub returns : goal.returns
returns c = refusals_stay
