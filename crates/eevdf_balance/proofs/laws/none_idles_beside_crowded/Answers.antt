use Rattle.eevdf_balance.proofs.Sweeps.{none_idles_beside_crowded}
use Rattle.eevdf_balance.proofs.laws.none_idles_beside_crowded.Goals as goal

pub returns : goal.returns
returns c = none_idles_beside_crowded
