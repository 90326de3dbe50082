use Rattle.eevdf_fairness.proofs.LeavingDeeds as leaving_deeds
use Rattle.eevdf_fairness.proofs.laws.deeds_leave.Goals as goal

pub returns : goal.returns
returns c = leaving_deeds.deeds_leave
