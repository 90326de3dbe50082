use Rattle.eevdf_fairness.proofs.OneCpuJoins as one_cpu_joins
use Rattle.eevdf_fairness.proofs.laws.one_cpu_joins_keep_fair.Goals as goal

pub returns : goal.returns
returns c = one_cpu_joins.one_cpu_joins_keep_fair c.pick_is_first.ensures c.pick_of_nobody.ensures
