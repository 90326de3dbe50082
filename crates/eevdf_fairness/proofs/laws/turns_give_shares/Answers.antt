use Rattle.eevdf_fairness.proofs.Shares as shares
use Rattle.eevdf_fairness.proofs.laws.turns_give_shares.Goals as goal

pub returns : goal.returns
returns c = shares.turns_give_shares c.pick_is_first.ensures c.pick_of_nobody.ensures
