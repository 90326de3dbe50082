use Rattle.eevdf_dozes.proofs.OneCpuLater as later
use Rattle.eevdf_dozes.proofs.laws.nobody_is_ever_far_apart_on_cpu.Goals as goal

pub returns : goal.returns
returns c = later.nobody_is_ever_far_apart c.deeds_are_calls.ensures c.nobody_is_ever_far_apart.ensures
