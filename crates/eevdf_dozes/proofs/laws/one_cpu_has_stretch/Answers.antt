use Rattle.eevdf_dozes.proofs.OneCpuStretches as stretches
use Rattle.eevdf_dozes.proofs.laws.one_cpu_has_stretch.Goals as goal

pub returns : goal.returns
returns c = stretches.one_cpu_has_stretch c.deeds_are_calls.ensures c.calls_begin_with_pick.ensures
