use Rattle.eevdf_dozes.proofs.OneCpuShares as shares
use Rattle.eevdf_dozes.proofs.laws.who_stays_has_its_share_on_cpu.Goals as goal

pub returns : goal.returns
returns c = shares.who_stays_has_its_share c.one_cpu_has_stretch.ensures c.who_stays_has_its_share.ensures
