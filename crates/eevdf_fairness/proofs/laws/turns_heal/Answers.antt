use Rattle.eevdf_fairness.proofs.Healing as healing
use Rattle.eevdf_fairness.proofs.laws.turns_heal.Goals as goal

pub returns : goal.returns
returns c = healing.turns_heal c.pick_is_first.ensures c.pick_of_nobody.ensures
