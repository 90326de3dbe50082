use Rattle.eevdf_fairness.proofs.OneCpu as one_cpu
use Rattle.eevdf_fairness.proofs.laws.turns_of_one_cpu.Goals as goal

pub returns : goal.returns
returns c = one_cpu.turns_of_one_cpu c.others_stay.ensures
