use Rattle.eevdf_fairness.proofs.MachineDays as machine_days
use Rattle.eevdf_fairness.proofs.rebase_laws.one_cpu_stays_in_range.Goals as goal

pub returns : goal.returns
returns c = machine_days.one_cpu_stays_in_range c.others_stay.ensures c.days_stay_in_range.ensures
