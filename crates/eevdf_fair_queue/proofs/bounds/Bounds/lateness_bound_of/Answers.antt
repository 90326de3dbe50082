use Rattle.std.proofs.Common.{◌≡◌, ℤ, Some, SFits, w64, to_z, of_z, sym, subst, ap, ◌∙◌, rules}
use Rattle.std.specs.FinMap.{get}
use Rattle.std.proofs.lemmas.Int.{to_z-of_z}
use Rattle.eevdf_fair_queue.specs.{Bounds.late_by, Lateness.IsLateBy}
use Rattle.eevdf_fair_queue.proofs.Late.{late_of}
use Rattle.eevdf_fair_queue.proofs.bounds.Bounds.lateness_bound_of.Goals as goal

pub returns-clause-late : goal.returns-clause-late
returns-clause-late c = λ fair.
    let q = c.args.queue.now.state in
    let b = c.args.self.now in
    let f = c.in_ok-entry.entry in
    let due : SFits w64 f.d = search rules in
    let late : SFits w64 c.late_by.result = search rules in
    let by : to_z w64 (of_z w64 c.late_by.result) ≡ late_by b f.d =
    to_z-of_z w64 c.late_by.result late ∙ c.late_by.ensures ∙ ap (late_by b) (to_z-of_z w64 f.d due) in
    let at : get q.runnable c.args.task ≡ Some f = sym c.entry.ensures ∙ c.in_ok-entry.was in
    subst (λ (z : ℤ). IsLateBy q c.args.task z) (sym by) (late_of q b c.args.task f c.every_queue.ensures fair at)
