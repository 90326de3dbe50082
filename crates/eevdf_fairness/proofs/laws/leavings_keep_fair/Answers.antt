use Rattle.eevdf_fairness.proofs.Fairness as fairness
use Rattle.eevdf_fairness.proofs.laws.leavings_keep_fair.Goals as goal

pub returns : goal.returns
returns c = fairness.leavings_keep_fair c.pick_is_first.ensures c.pick_of_nobody.ensures
