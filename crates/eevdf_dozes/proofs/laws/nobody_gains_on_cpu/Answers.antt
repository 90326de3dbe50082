use Rattle.eevdf_dozes.proofs.OneCpuStretches as stretches
use Rattle.eevdf_dozes.proofs.laws.nobody_gains_on_cpu.Goals as goal

pub returns : goal.returns
returns c = stretches.nobody_gains c.one_cpu_has_stretch.ensures c.nobody_gains.ensures
