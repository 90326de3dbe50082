use Rattle.eevdf_ops.proofs.GivenTasks as given
use Rattle.eevdf_ops.proofs.laws.tasks_stay_as_given.Goals as goal

pub returns : goal.returns
returns c = given.tasks_stay_as_given
