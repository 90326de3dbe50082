use Rattle.eevdf_fairness.proofs.Fairness as fairness
use Rattle.eevdf_fairness.proofs.laws.leavings_keep_fair_anywhere.Goals as goal

pub returns : goal.returns
returns c = fairness.leavings_keep_fair_anywhere c.pick_is_first.ensures c.pick_of_nobody.ensures
