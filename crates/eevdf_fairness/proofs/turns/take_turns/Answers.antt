use Rattle.std.proofs.Common.{map, sym, subst}
use Rattle.eevdf_queue.specs.State.{State}
use Rattle.eevdf_fairness.specs.Fair.{AllAreFair}
use Rattle.eevdf_fairness.proofs.turns.take_turns.Goals as goal

pub returns-clause-fair : goal.returns-clause-fair
returns-clause-fair c = λ v ns fresh short.
    subst (λ (q : State). AllAreFair ns q.runnable) (sym c.take_each.ensures)
    (c.turns_are_fair.ensures c.args.queue.now.state v ns (map (λ t. t.items) c.args.turns.now) fresh short)
