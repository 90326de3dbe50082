use Rattle.std.proofs.Common.{rules, ◌≡◌, subst}
use Rattle.eevdf_queue.specs.{State.State, Kept.IsKept, Kept.AreInRange}
use Rattle.eevdf_fair_queue.proofs.{Keeping.fair_of, Running.rebase_keeps}
use Rattle.eevdf_c.specs.Fair as fairs
use Rattle.eevdf_c.proofs.calls.fair_turns.rebase.Goals as goal

pub returns-clause-fair : goal.returns-clause-fair
returns-clause-fair c = λ fair.
    let q = c.args.opened.now in
    let b = c.args.bounds.now in
    let kept : IsKept q = subst (λ (x : State). IsKept x) c.opened.view_is c.every_queue.ensures in
    let kept_after : IsKept c.rebase-code.new.opened = subst (λ (x : State). IsKept x) c.opened-2.view_is c.every_queue-2.ensures in
    let is : c.lowered-bounds-inside.result ≡ fairs.rebase b q = search rules in
    fair_of _ _ _ _ c.rebase-code.ensures.after is
    (rebase_keeps q b fair kept (subst (λ (x : State). AreInRange x.runnable) c.rebase-code.ensures.after kept_after.in_range))
