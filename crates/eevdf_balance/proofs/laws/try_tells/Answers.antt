use Rattle.eevdf_balance.proofs.Tries.{try_tells}
use Rattle.eevdf_balance.proofs.laws.try_tells.Goals as goal

pub returns : goal.returns
returns c = try_tells
