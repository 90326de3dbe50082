use Rattle.eevdf_fairness.proofs.Passing as passing
use Rattle.eevdf_fairness.proofs.laws.turns_keep_tasks.Goals as goal

pub returns : goal.returns
returns c = passing.turns_keep_tasks
