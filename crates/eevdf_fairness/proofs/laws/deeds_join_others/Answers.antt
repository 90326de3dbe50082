use Rattle.eevdf_fairness.proofs.JoiningOthers as joining_others
use Rattle.eevdf_fairness.proofs.laws.deeds_join_others.Goals as goal

pub returns : goal.returns
returns c = record { joins = joining_others.deeds_join_others; level = joining_others.starts_are_level }
