use Rattle.eevdf_dozes.proofs.CpuTime as cpu
use Rattle.eevdf_dozes.proofs.laws.they_have_the_cpu.Goals as goal

pub returns : goal.returns
returns c = cpu.they_have_the_cpu
