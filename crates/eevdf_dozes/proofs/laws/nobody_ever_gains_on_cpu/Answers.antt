use Rattle.eevdf_dozes.proofs.OneCpuLater as later
use Rattle.eevdf_dozes.proofs.laws.nobody_ever_gains_on_cpu.Goals as goal

pub returns : goal.returns
returns c = later.nobody_ever_gains c.deeds_are_calls.ensures c.nobody_ever_gains.ensures
