use Rattle.eevdf_fairness.proofs.Fairness as fairness
use Rattle.eevdf_fairness.proofs.laws.turns_are_fair.Goals as goal

pub returns : goal.returns
returns c = fairness.turns_are_fair c.pick_is_first.ensures c.pick_of_nobody.ensures
