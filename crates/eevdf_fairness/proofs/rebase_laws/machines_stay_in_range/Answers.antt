use Rattle.eevdf_fairness.proofs.MachineDays as machine_days
use Rattle.eevdf_fairness.proofs.rebase_laws.machines_stay_in_range.Goals as goal

pub returns : goal.returns
returns c = machine_days.machines_stay_in_range c.one_cpu_stays_in_range.ensures
