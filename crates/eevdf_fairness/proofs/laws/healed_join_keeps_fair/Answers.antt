use Rattle.eevdf_fairness.proofs.AfterJoin as after_join
use Rattle.eevdf_fairness.proofs.laws.healed_join_keeps_fair.Goals as goal

pub returns : goal.returns
returns c = after_join.healed_join_keeps_fair c.pick_is_first.ensures c.pick_of_nobody.ensures
