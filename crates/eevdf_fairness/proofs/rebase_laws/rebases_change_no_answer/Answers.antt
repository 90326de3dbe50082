use Rattle.eevdf_fairness.proofs.RebasedHistories as histories
use Rattle.eevdf_fairness.proofs.rebase_laws.rebases_change_no_answer.Goals as goal

pub returns : goal.returns
returns c = histories.rebases_change_no_answer c.lowered_machine_answers_alike.ensures c.rebased_is_lower.ensures
