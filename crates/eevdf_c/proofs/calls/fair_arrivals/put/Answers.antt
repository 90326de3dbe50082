use Rattle.std.proofs.Common.{rules, ◌≡◌, Some, subst}
use Rattle.eevdf_queue.specs.{State.State, Kept.IsKept}
use Rattle.eevdf_fair_queue.proofs.Keeping.{fair_of}
use Rattle.eevdf_c.specs.Fair as fairs
use Rattle.eevdf_c.proofs.Fair.{kept_as, put_fair}
use Rattle.eevdf_c.proofs.calls.fair_arrivals.put.Goals as goal

pub returns-clause-fair : goal.returns-clause-fair
returns-clause-fair c = λ fair.
    let q = c.args.opened.now in
    let b = c.args.bounds.now in
    let kept : IsKept q = subst (λ (x : State). IsKept x) c.opened.view_is c.every_queue.ensures in
    let at : c.args.hand.now ≡ Some c.in-Some.parcel = search rules in
    let is : c.settle.new.bounds ≡ fairs.put b q c.args.hand.now = search rules in
    fair_of _ _ _ _ c.put-code.ensures.queue is
    (put_fair c.pick_is_first.ensures c.pick_of_nobody.ensures q b c.args.hand.now c.in-Some.parcel at kept
    (kept_as _ _ q _ _ c.put-code.ensures.answer c.put-code.ensures.queue c.put-code.ensures.kept) fair)
