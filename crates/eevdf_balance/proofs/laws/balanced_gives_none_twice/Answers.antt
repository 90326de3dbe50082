use Rattle.eevdf_balance.proofs.NoneTwice.{balanced_gives_none_twice}
use Rattle.eevdf_balance.proofs.laws.balanced_gives_none_twice.Goals as goal

pub returns : goal.returns
returns c = balanced_gives_none_twice
