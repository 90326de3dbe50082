use Rattle.eevdf_dozes.proofs.OneCpuLater as later
use Rattle.eevdf_dozes.proofs.laws.nobody_gains_later_on_cpu.Goals as goal

pub returns : goal.returns
returns c = later.nobody_gains_later c.deeds_are_calls.ensures c.nobody_gains_later.ensures
