use Rattle.eevdf_fairness.proofs.OneCpu as one_cpu
use Rattle.eevdf_fairness.proofs.laws.one_cpu_is_fair_anywhere.Goals as goal

pub returns : goal.returns
returns c = one_cpu.one_cpu_is_fair_anywhere c.others_stay.ensures c.turns_are_fair_anywhere.ensures
