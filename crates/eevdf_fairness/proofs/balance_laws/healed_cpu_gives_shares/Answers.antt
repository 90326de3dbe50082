use Rattle.eevdf_fairness.proofs.IdealTime as ideals
use Rattle.eevdf_fairness.proofs.balance_laws.healed_cpu_gives_shares.Goals as goal

pub returns : goal.returns
returns c = ideals.healed_cpu_gives_shares c.others_stay.ensures c.failed_pulls_can_be_left_out.ensures c.healed_turns_give_shares.ensures
