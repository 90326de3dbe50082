use Rattle.eevdf_fairness.proofs.JoiningDeeds as joining_deeds
use Rattle.eevdf_fairness.proofs.laws.deeds_join.Goals as goal

pub returns : goal.returns
returns c = joining_deeds.deeds_join
