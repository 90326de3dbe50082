use Rattle.eevdf_dozes.proofs.OneCpuShares as shares
use Rattle.eevdf_dozes.proofs.laws.who_sleeps_has_no_more_on_cpu.Goals as goal

pub returns : goal.returns
returns c = shares.who_sleeps_has_no_more c.one_cpu_has_stretch.ensures c.who_sleeps_has_no_more.ensures
