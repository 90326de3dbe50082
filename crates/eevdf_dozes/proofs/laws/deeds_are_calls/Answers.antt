use Rattle.eevdf_dozes.proofs.OneCpu as one_cpu
use Rattle.eevdf_dozes.proofs.laws.deeds_are_calls.Goals as goal

pub returns : goal.returns
returns c = one_cpu.deeds_are_calls
