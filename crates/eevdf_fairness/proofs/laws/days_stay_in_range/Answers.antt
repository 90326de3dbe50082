use Rattle.eevdf_fairness.proofs.Days as days
use Rattle.eevdf_fairness.proofs.laws.days_stay_in_range.Goals as goal

pub returns : goal.returns
returns c = days.days_stay_in_range c.pick_is_first.ensures c.pick_of_nobody.ensures c.lowered_queue_answers_alike.ensures c.rebased_is_lower.ensures
