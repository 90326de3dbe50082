use Rattle.eevdf_fairness.proofs.RebasedTurns as rebased
use Rattle.eevdf_fairness.proofs.rebase_laws.rebased_cpu_is_fair_anywhere.Goals as goal

pub returns : goal.returns
returns c = rebased.rebased_cpu_is_fair_anywhere c.steps_of_one_cpu.ensures c.rebased_turns_are_fair_anywhere.ensures
