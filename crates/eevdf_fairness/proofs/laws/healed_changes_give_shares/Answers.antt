use Rattle.eevdf_fairness.proofs.OneCpuShares as one_cpu_shares
use Rattle.eevdf_fairness.proofs.laws.healed_changes_give_shares.Goals as goal

pub returns : goal.returns
returns c = one_cpu_shares.healed_changes_give_shares c.healed_turns_give_shares.ensures
