use Rattle.eevdf_fairness.proofs.Opening as opening
use Rattle.eevdf_fairness.proofs.laws.opening_is_fresh.Goals as goal

pub returns : goal.returns
returns c = opening.opening_is_fresh
