use Rattle.eevdf_fairness.proofs.LeavingDeeds as leaving_deeds
use Rattle.eevdf_fairness.proofs.laws.runnable_tasks_decide.Goals as goal

pub returns : goal.returns
returns c = leaving_deeds.runnable_tasks_decide
