use Rattle.std.proofs.Common.{ℕ, List, replicate, ap, ◌∙◌, sym, subst}
use Rattle.std.specs.Prelude.{Option, None}
use Rattle.eevdf_steps.specs.{Counters.Counters, Holders.AreHolders, Plan.callers, Positions.counters_at}
use Rattle.eevdf_steps.proofs.{CounterLists.counters_first, Holders.holders_first}
use Rattle.eevdf_steps.proofs.callers.Callers.open.Goals as goal

pub invariant_of-result : goal.invariant_of-result
invariant_of-result c = record {
  each = c.in_ok-positions.ensures.each;
  within = c.in_ok-positions.ensures.within;
  locks = subst (λ (hs : List (Option ℕ)). AreHolders c.in_ok-plan.plan (counters_at c.in_ok-plan.plan 0 c.in_ok-positions.positions.items) hs)
      (sym (c.in_ok-holders.ensures ∙ ap (λ (n : ℕ). replicate n None) c.callers.ensures.callers))
      (subst (λ (cs : Counters). AreHolders c.in_ok-plan.plan cs (replicate (callers c.in_ok-plan.plan) None))
      (sym (counters_first c.in_ok-plan.plan _ c.in_ok-positions.positions.items c.in_ok-positions.ensures)) (holders_first c.in_ok-plan.plan));
}

pub returns-clause-counters : goal.returns-clause-counters
returns-clause-counters c =
    counters_first c.in_ok-plan.plan _ c.in_ok-positions.positions.items c.in_ok-positions.ensures
    ∙ ap (λ (n : ℕ). replicate n 0) (ap callers c.in_ok-plan.ensures)
