use Rattle.std.proofs.Common.{ℤ, SFits, w64, ap, ◌∙◌, subst, rules}
use Rattle.std.proofs.lemmas.Int.{to_z-of_z}
use Rattle.eevdf_queue.specs.{State.State, Kept.AreInRange}
use Rattle.eevdf_fair_queue.specs.Bounds.{lowered}
use Rattle.eevdf_fair_queue.proofs.{Keeping.fair_of, Running.rebase_keeps}
use Rattle.eevdf_fair_queue.proofs.bounds.Bounds.rebase.Goals as goal

pub returns-clause-fair : goal.returns-clause-fair
returns-clause-fair c = λ fair.
    let q = c.args.queue.now.state in
    let fits : SFits w64 c.rebase-by.result = search rules in
    fair_of _ _ _ _ c.rebase-by.ensures.after
    (c.lowered.ensures ∙ ap (λ (z : ℤ). lowered c.args.self.now z) (to_z-of_z w64 c.rebase-by.result fits ∙ c.rebase-by.ensures.by))
    (rebase_keeps q c.args.self.now fair c.every_queue.ensures
    (subst (λ (x : State). AreInRange x.runnable) c.rebase-by.ensures.after c.every_queue-2.ensures.in_range))
