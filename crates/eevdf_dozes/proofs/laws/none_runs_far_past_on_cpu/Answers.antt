use Rattle.eevdf_dozes.proofs.OneCpuStretches as stretches
use Rattle.eevdf_dozes.proofs.laws.none_runs_far_past_on_cpu.Goals as goal

pub returns : goal.returns
returns c = stretches.none_runs_far_past c.one_cpu_has_stretch.ensures c.none_runs_far_past.ensures
