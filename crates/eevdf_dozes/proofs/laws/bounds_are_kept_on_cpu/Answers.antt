use Rattle.eevdf_dozes.proofs.OneCpuLater as later
use Rattle.eevdf_dozes.proofs.laws.bounds_are_kept_on_cpu.Goals as goal

pub returns : goal.returns
returns c = later.bounds_are_kept c.deeds_are_calls.ensures c.bounds_are_kept.ensures
