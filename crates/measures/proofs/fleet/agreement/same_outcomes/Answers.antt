use Rattle.std.proofs.Common.{◌≡◌, List, rules, subst, sym, ◌∙◌}
use Rattle.std.specs.Bool.{IsTrue}
use Rattle.std.specs.Cmp.Lexicographic.{pointwise}
use Rattle.eevdf_ops.specs.declared.deeds.Line.{Line}
use Rattle.eevdf_ops.specs.contracts.deeds.LinePartialEq.TheImpl as line
use Rattle.measures.proofs.SameLines.{lines_themselves}
use Rattle.measures.proofs.fleet.agreement.same_outcomes.Goals as goal

pub returns-else-eq : goal.returns-else-eq
returns-else-eq c lines queues =
    let same : c.history.result.now ≡ c.history-2.result.now = c.history.ensures ∙ lines ∙ sym c.history-2.ensures in
    rw c.eq.ensures (subst (λ (xs : List Line). IsTrue (pointwise line.eq-value.it c.history.result.now xs)) same (rw (lines_themselves c.history.result.now) (search rules)))
