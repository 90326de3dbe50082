use Rattle.std.proofs.Common.{rules, ◌≡◌, sym, ap, subst, ◌∙◌}
use Rattle.eevdf_queue.specs.{State.State, Kept.IsKept, Kept.AreInRange, Tick.tick, Tick.running_entry}
use Rattle.eevdf_fair_queue.specs.Fair.{charged_by}
use Rattle.eevdf_fair_queue.proofs.{Keeping.fair_of, Running.tick_keeps}
use Rattle.eevdf_c.specs.Fair as fairs
use Rattle.eevdf_c.proofs.Fair.{runner_in_range, tick_bounds}
use Rattle.eevdf_c.proofs.calls.fair_turns.tick.Goals as goal
use Rattle.eevdf_c.proofs.calls.fair_turns.tick.Goals.{After-charge}

pub charge-requires : goal.charge-requires
charge-requires c =
    runner_in_range c.opened.inside.queue.state c.every_queue.ensures.in_range c.tick_from-tick.result.before
    (c.tick_from-tick.ensures.before ∙ sym (ap running_entry c.opened.view_is))

-- the bounds are those after the charge of who is charged
charged : (c : After-charge) → c.charge.new.bounds
    ≡ charged_by c.args.bounds.now c.in-Some.length (tick c.args.opened.now c.in-Some.length).0 (tick c.args.opened.now c.in-Some.length).1
charged c =
    let q = c.args.opened.now in
    let b = c.args.bounds.now in
    let t = c.tick_from-tick in
    let is : c.charge.new.bounds ≡ fairs.charged_with b t.result.code c.in-Some.length t.result.before = search rules in
    is ∙ tick_bounds q b c.in-Some.length t.result.code t.result.before t.ensures.code t.ensures.before

pub returns-clause-bounds : goal.returns-clause-bounds
returns-clause-bounds c =
    charged (goal.at.returns-clause-bounds c).After-charge
    ∙ ap (fairs.tick_by c.args.bounds.now c.args.opened.now) (sym c.in-Some.is ∙ c.new.ensures)

pub returns-clause-fair : goal.returns-clause-fair
returns-clause-fair c = λ fair.
    let q = c.args.opened.now in
    let b = c.args.bounds.now in
    let kept : IsKept q = subst (λ (x : State). IsKept x) c.opened.view_is c.every_queue.ensures in
    let kept_after : IsKept c.tick_from-tick.new.opened = subst (λ (x : State). IsKept x) c.opened-2.view_is c.every_queue-2.ensures in
    let after : c.tick_from-tick.new.opened ≡ (tick q c.in-Some.length).1 = c.tick_from-tick.ensures.after in
    fair_of _ _ _ _ after (charged (goal.at.returns-clause-fair c).After-charge)
    (tick_keeps q b c.in-Some.length kept fair (subst (λ (x : State). AreInRange x.runnable) after kept_after.in_range))
