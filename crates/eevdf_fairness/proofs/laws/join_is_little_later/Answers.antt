use Rattle.eevdf_fairness.proofs.Joining as joining
use Rattle.eevdf_fairness.proofs.laws.join_is_little_later.Goals as goal

pub returns : goal.returns
returns c = joining.join_is_little_later
