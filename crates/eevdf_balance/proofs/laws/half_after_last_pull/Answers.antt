use Rattle.eevdf_balance.proofs.AfterLastPull.{half_after_last_pull}
use Rattle.eevdf_balance.proofs.laws.half_after_last_pull.Goals as goal

pub returns : goal.returns
returns c = half_after_last_pull
