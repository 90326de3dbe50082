use Rattle.eevdf_fairness.proofs.Lines as lines
use Rattle.eevdf_fairness.proofs.laws.one_cpu_gives_shares.Goals as goal

pub returns : goal.returns
returns c = lines.one_cpu_gives_shares c.others_stay.ensures c.turns_give_shares.ensures
