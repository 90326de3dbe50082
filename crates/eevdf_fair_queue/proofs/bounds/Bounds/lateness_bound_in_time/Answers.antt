use Rattle.std.proofs.Common.{ℕ, ℤ, SFits, w64, sym, ap, subst, ◌∙◌, rules}
use Rattle.std.proofs.lemmas.Int.{to_z-of_z}
use Rattle.eevdf_fair_queue.specs.InTime.{NoneIsLaterInTime, in_time}
use Rattle.eevdf_fair_queue.proofs.InTime.{none_later_in_time}
use Rattle.eevdf_fair_queue.proofs.bounds.Bounds.lateness_bound_in_time.Goals as goal

pub returns-clause-late : goal.returns-clause-late
returns-clause-late c = λ fair.
    let q = c.args.queue.now.state in
    let bound : SFits w64 c.lateness_bound.result = search rules in
    subst (λ (ns : ℕ). NoneIsLaterInTime q ns)
    (sym (c.in_time.ensures ∙ ap (λ (by : ℤ). in_time by c.load.result) (to_z-of_z w64 c.lateness_bound.result bound) ∙ ap (in_time c.lateness_bound.result) c.load.ensures))
    (none_later_in_time q c.lateness_bound.result (c.lateness_bound.ensures.late fair))
