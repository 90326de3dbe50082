use Rattle.std.proofs.Common.{length, ap, ◌∙◌, sym}
use Rattle.eevdf_steps.specs.{Callers.Callers, Plan.callers}
use Rattle.eevdf_steps.proofs.CounterLists.{length-counters_at}
use Rattle.eevdf_steps.proofs.callers.Callers.keeps.Goals as goal

pub returns-clause-each : goal.returns-clause-each
returns-clause-each c =
    ap (λ (w : Callers). length w.counters) (sym c.self.view_is)
    ∙ length-counters_at c.self.inside.plan 0 c.self.inside.positions.items ∙ c.self.invariant.each
    ∙ ap (λ (w : Callers). callers w.plan) c.self.view_is
