use Rattle.eevdf_fairness.proofs.OneCpuSteps as one_cpu_steps
use Rattle.eevdf_fairness.proofs.laws.one_cpu_join_keeps_fair.Goals as goal

pub returns : goal.returns
returns c = one_cpu_steps.one_cpu_join_keeps_fair c.join_keeps_fair.ensures
