use Rattle.eevdf_fairness.proofs.RebasedHistories as histories
use Rattle.eevdf_fairness.proofs.rebase_laws.rebased_histories_are_alike.Goals as goal

pub returns : goal.returns
returns c = histories.rebased_histories_are_alike c.rebases_change_no_answer.ensures
