use Rattle.eevdf_fairness.proofs.IdealTime as ideals
use Rattle.eevdf_fairness.proofs.balance_laws.balanced_gives_half_of_time.Goals as goal

pub returns : goal.returns
returns c = ideals.balanced_gives_half_of_time c.healed_cpu_gives_shares.ensures c.balanced_gives_half.ensures
