use Rattle.eevdf_fair_queue.proofs.Beside.{shares_beside_are_told}
use Rattle.eevdf_fair_queue.proofs.laws.shares_beside_are_told.Goals as goal

pub returns : goal.returns
returns c = shares_beside_are_told
