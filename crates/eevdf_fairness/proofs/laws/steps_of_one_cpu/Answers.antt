use Rattle.eevdf_fairness.proofs.OneCpuSteps as one_cpu_steps
use Rattle.eevdf_fairness.proofs.laws.steps_of_one_cpu.Goals as goal

pub returns : goal.returns
returns c = one_cpu_steps.steps_of_one_cpu
