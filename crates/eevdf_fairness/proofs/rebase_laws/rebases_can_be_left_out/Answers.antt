use Rattle.eevdf_fairness.proofs.RebasedHistories as histories
use Rattle.eevdf_fairness.proofs.rebase_laws.rebases_can_be_left_out.Goals as goal

pub returns : goal.returns
returns c = histories.rebases_can_be_left_out c.rebases_change_no_answer.ensures
