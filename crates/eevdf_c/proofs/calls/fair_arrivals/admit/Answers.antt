use Rattle.std.proofs.Common.{rules, ◌≡◌, Some, sym, subst, ◌∙◌}
use Rattle.std.specs.Prelude.{ℤ}
use Rattle.eevdf_queue.specs.{State.State, Kept.IsKept, Numbers.checked_number}
use Rattle.eevdf_fair_queue.proofs.Keeping.{fair_of}
use Rattle.eevdf_c.specs.Fair as fairs
use Rattle.eevdf_c.specs.Admit as admits
use Rattle.eevdf_c.proofs.Fair.{kept_as, settles_number, admit_of_one}
use Rattle.eevdf_c.proofs.calls.fair_arrivals.admit.Goals as goal

pub returns-clause-fair : goal.returns-clause-fair
returns-clause-fair c = λ fair.
    let q = c.args.opened.now in
    let b = c.args.bounds.now in
    let kept : IsKept q = subst (λ (x : State). IsKept x) c.opened.view_is c.every_queue.ensures in
    let at : checked_number c.args.number ≡ Some c.in-Some.task = sym c.new.ensures ∙ c.in-Some.is in
    let outcome : ℤ × State = (c.admit-code.result, admits.after_answer q (admits.admit q c.args.number c.args.level c.args.slice_ns c.args.start) c.admit-code.result) in
    let is : c.settle.new.bounds ≡ fairs.settled b q c.args.number outcome = search rules in
    let answer : c.admit-code.result ≡ outcome.0 = search rules in
    let after : c.admit-code.new.opened ≡ outcome.1 = search rules in
    fair_of _ _ _ _ after is
    (settles_number c.pick_is_first.ensures c.pick_of_nobody.ensures q b c.args.number c.in-Some.task outcome at kept
    (admit_of_one q c.args.number c.in-Some.task c.args.level c.args.slice_ns c.args.start c.admit-code.result at) (kept_as _ _ q _ _ answer after c.admit-code.ensures.kept) fair)
