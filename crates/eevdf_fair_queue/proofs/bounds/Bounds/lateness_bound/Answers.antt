use Rattle.std.proofs.Common.{◌≡◌, ℤ, SFits, w64, to_z, of_z, sym, subst, ap, ◌∙◌, rules, refl}
use Rattle.std.specs.Int.{int_min}
use Rattle.std.proofs.lemmas.Int.{to_z-of_z}
use Rattle.eevdf_queue.specs.Sums.{virtual_time}
use Rattle.eevdf_fair_queue.specs.{Bounds.late_by, Lateness.NoneIsLaterThan}
use Rattle.eevdf_fair_queue.proofs.Late.{none_at_all, none_later}
use Rattle.eevdf_fair_queue.proofs.bounds.Bounds.lateness_bound.Goals as goal

pub returns-in_default-clause-late : goal.returns-in_default-clause-late
returns-in_default-clause-late c = λ fair.
    none_at_all c.pick_of_nobody.ensures c.args.queue.now.state (sym c.peek.ensures.number ∙ c.in_default.is)

pub returns-clause-late : goal.returns-clause-late
returns-clause-late c = λ fair.
    let q = c.args.queue.now.state in
    let b = c.args.self.now in
    let f = c.in-Some-entry.entry in
    let due : SFits w64 f.d = search rules in
    let time : SFits w64 c.floor_time-time.result = search rules in
    let first : SFits w64 c.lesser.result = search rules in
    let late : SFits w64 c.late_by.result = search rules in
    let least : c.lesser.result ≡ int_min (virtual_time q) f.d =
    c.lesser.ensures ∙ rw (to_z-of_z w64 c.floor_time-time.result time, to_z-of_z w64 f.d due, c.floor_time-time.ensures.value) refl in
    let by : to_z w64 (of_z w64 c.late_by.result) ≡ late_by b (int_min (virtual_time q) f.d) =
    to_z-of_z w64 c.late_by.result late ∙ c.late_by.ensures ∙ ap (late_by b) (to_z-of_z w64 c.lesser.result first ∙ least) in
    subst (λ (z : ℤ). NoneIsLaterThan q z) (sym by)
    (none_later c.pick_is_first.ensures q b c.in-Some.first f c.every_queue.ensures fair (sym c.peek.ensures.number ∙ c.in-Some.is)
    (sym c.entry.ensures ∙ c.in-Some-entry.is))
