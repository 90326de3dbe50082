use Rattle.std.proofs.Common.{Option, Some, SFits, w64, refl, sym, ap, ◌∙◌, rules}
use Rattle.std.proofs.lemmas.Int.{to_z-of_z}
use Rattle.eevdf_fair_queue.specs.{declared.bounds.Mark.Mark, Bounds.settled}
use Rattle.eevdf_fair_queue.proofs.bounds.Bounds.settled.Goals as goal

pub returns : goal.returns
returns c =
    let b = c.args.self in
    let m = c.in-Some-mark.mark in
    let e = c.in-Some.entry in
    let mark_v : SFits w64 m.v = search rules in
    let mark_d : SFits w64 m.d = search rules in
    let v : SFits w64 e.v = search rules in
    let d : SFits w64 e.d = search rules in
    c.adopted.ensures
    ∙ rw (to_z-of_z w64 m.v mark_v, to_z-of_z w64 e.v v, c.advanced_where.ensures, to_z-of_z w64 e.d d, to_z-of_z w64 m.d mark_d, c.reached-2.ensures, to_z-of_z w64 e.v v) refl
    ∙ sym (ap (settled b c.args.mark) c.in-Some.is ∙ ap (λ (x : Option Mark). settled b x (Some e)) c.in-Some-mark.is)
