use Rattle.eevdf_fairness.proofs.OneCpuShares as one_cpu_shares
use Rattle.eevdf_fairness.proofs.laws.changes_tell_time.Goals as goal

pub returns : goal.returns
returns c = one_cpu_shares.changes_tell_time
