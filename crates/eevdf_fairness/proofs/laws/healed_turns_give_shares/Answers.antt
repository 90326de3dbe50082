use Rattle.eevdf_fairness.proofs.Healing as healing
use Rattle.eevdf_fairness.proofs.laws.healed_turns_give_shares.Goals as goal

pub returns : goal.returns
returns c = healing.healed_turns_give_shares c.pick_is_first.ensures c.pick_of_nobody.ensures
