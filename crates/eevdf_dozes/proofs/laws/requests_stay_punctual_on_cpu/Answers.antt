use Rattle.eevdf_dozes.proofs.OneCpuStretches as stretches
use Rattle.eevdf_dozes.proofs.laws.requests_stay_punctual_on_cpu.Goals as goal

pub returns : goal.returns
returns c = stretches.requests_stay_punctual c.one_cpu_has_stretch.ensures c.requests_stay_punctual.ensures
