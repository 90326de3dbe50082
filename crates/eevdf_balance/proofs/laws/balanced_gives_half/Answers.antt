use Rattle.eevdf_balance.proofs.HalfShare.{balanced_gives_half}
use Rattle.eevdf_balance.proofs.laws.balanced_gives_half.Goals as goal

pub returns : goal.returns
returns c = balanced_gives_half
