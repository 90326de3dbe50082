use Rattle.eevdf_fairness.proofs.Healing as healing
use Rattle.eevdf_fairness.proofs.laws.leavings_heal.Goals as goal

pub returns : goal.returns
returns c = healing.leavings_heal c.pick_is_first.ensures c.pick_of_nobody.ensures
