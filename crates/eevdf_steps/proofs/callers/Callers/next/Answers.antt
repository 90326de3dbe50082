use Rattle.std.proofs.Common.{◌≡◌, ◌<◌, ap, subst, true, ◌∙◌, sym, arith}
use Rattle.std.specs.Prelude.{IfSome}
use Rattle.eevdf_steps.specs.{Callers.Callers, Counters.step_next, Plan.callers, Positions.counters_at, SoundSteps.is_sound_step}
use Rattle.eevdf_steps.proofs.{CounterLists.step_kept, SoundSteps.some_step_sound}
use Rattle.eevdf_steps.proofs.callers.Callers.next.Goals as goal
use Rattle.eevdf_steps.proofs.callers.Callers.next.Goals.{After-index-2}

is_caller : (c : After-index-2) → c.args.cpu < callers c.self.inside.plan
is_caller c = subst (λ (w : Callers). c.args.cpu < callers w.plan) (sym c.self.view_is) c.requires

is_step : (c : After-index-2) → c.index-2.result.now.next ≡ step_next c.self.inside.plan (counters_at c.self.inside.plan 0 c.self.inside.positions.items) c.args.cpu
is_step c =
    step_kept c.self.inside.plan c.self.inside.positions.items c.index.result c.args.cpu c.index-2.result.now c.index.ensures.number
    (omega (arith, is_caller c, c.index.ensures.number, c.self.invariant.each)) c.index-2.ensures c.self.invariant.within

pub returns-clause-step : goal.returns-clause-step
returns-clause-step c = is_step (goal.at.returns-clause-step c).After-index-2 ∙ ap (λ (w : Callers). step_next w.plan w.counters c.args.cpu) c.self.view_is

pub returns-clause-sound : goal.returns-clause-sound
returns-clause-sound c =
    subst (λ (w : Callers). IfSome c.index-2.result.now.next (λ s. is_sound_step w.plan s ≡ true)) c.self.view_is
    (some_step_sound c.self.inside.plan (counters_at c.self.inside.plan 0 c.self.inside.positions.items) c.args.cpu c.index-2.result.now.next c.keeps.ensures
    (is_caller (goal.at.returns-clause-sound c).After-index-2) (is_step (goal.at.returns-clause-sound c).After-index-2))
