use Rattle.eevdf_fairness.proofs.RebasedTurns as rebased
use Rattle.eevdf_fairness.proofs.rebase_laws.rebased_turns_are_fair.Goals as goal

pub returns : goal.returns
returns c = rebased.rebased_turns_are_fair c.pick_is_first.ensures c.pick_of_nobody.ensures
