use Rattle.eevdf_fairness.proofs.LoweredMachines as lowered_machines
use Rattle.eevdf_fairness.proofs.rebase_laws.lowered_machine_answers_alike.Goals as goal

pub returns : goal.returns
returns c = lowered_machines.lowered_machine_answers_alike c.lowered_queue_answers_alike.ensures
