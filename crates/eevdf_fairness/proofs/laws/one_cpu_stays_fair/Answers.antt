use Rattle.eevdf_fairness.proofs.OneCpuSteps as one_cpu_steps
use Rattle.eevdf_fairness.proofs.laws.one_cpu_stays_fair.Goals as goal

pub returns : goal.returns
returns c = one_cpu_steps.one_cpu_stays_fair c.leavings_keep_fair.ensures
