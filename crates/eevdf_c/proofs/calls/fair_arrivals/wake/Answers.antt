use Rattle.std.proofs.Common.{rules, ◌≡◌, Some, sym, subst, ◌∙◌}
use Rattle.eevdf_queue.specs.{State.State, Kept.IsKept, Numbers.checked_number}
use Rattle.eevdf_fair_queue.proofs.Keeping.{fair_of}
use Rattle.eevdf_c.specs.Fair as fairs
use Rattle.eevdf_c.specs.Wake as wakes
use Rattle.eevdf_c.proofs.Fair.{kept_as, settles_number, wake_of_one}
use Rattle.eevdf_c.proofs.calls.fair_arrivals.wake.Goals as goal

pub returns-clause-fair : goal.returns-clause-fair
returns-clause-fair c = λ fair.
    let q = c.args.opened.now in
    let b = c.args.bounds.now in
    let kept : IsKept q = subst (λ (x : State). IsKept x) c.opened.view_is c.every_queue.ensures in
    let at : checked_number c.args.number ≡ Some c.in-Some.task = sym c.new.ensures ∙ c.in-Some.is in
    let outcome = wakes.wake q c.args.number in
    let is : c.settle.new.bounds ≡ fairs.settled b q c.args.number (wakes.wake q c.args.number) = search rules in
    fair_of _ _ _ _ c.wake-code.ensures.after is
    (settles_number c.pick_is_first.ensures c.pick_of_nobody.ensures q b c.args.number c.in-Some.task outcome at kept
    (wake_of_one q c.args.number c.in-Some.task at) (kept_as _ _ q _ _ c.wake-code.ensures.answer c.wake-code.ensures.after c.wake-code.ensures.kept) fair)
