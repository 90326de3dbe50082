use Rattle.std.proofs.Common.{◌≡◌, ℤ, Option, Some, sym, subst, ap, ◌∙◌, rules}
use Rattle.std.specs.{Prelude.IfSome, FinMap.get}
use mir.Syntax.{w64}
use mir.Val.{SFits}
use Rattle.std.proofs.lemmas.Int.{to_z-of_z}
use Rattle.eevdf_fair_queue.specs.{declared.share_clock.ShareMark.ShareMark, ShareClock.mark_of}
use Rattle.eevdf_fair_queue.specs.{Owed.no_share, Beside.SharesView, Beside.IsOwedOf}
use Rattle.eevdf_fair_queue.proofs.Beside.{mark_beside_owed}
use Rattle.eevdf_fair_queue.proofs.shares.Shares.share_mark.Goals as goal

pub returns-clause-owed : goal.returns-clause-owed
returns-clause-owed c =
    let s : SharesView = record { clock = c.self.inside.clock; load = c.self.inside.load } in
    let q = c.args.queue.now.state in
    let e = c.in-Some.entry in
    let here : get q.runnable c.args.task ≡ Some e = sym c.entry.ensures ∙ c.in-Some.is in
    let runtime : SFits w64 e.v = search rules in
    let is : c.mark.result ≡ mark_of s.clock s.load e.v =
    c.mark.ensures ∙ ap (λ (z : ℤ). mark_of s.clock s.load z) (to_z-of_z w64 e.v runtime) in
    subst (λ (x : SharesView). IfSome c.mark.result (λ m. IsOwedOf x q c.args.task m no_share 0)) c.self.view_is
    (subst (λ (o : Option ShareMark). IfSome o (λ m. IsOwedOf s q c.args.task m no_share 0)) (sym is)
    (mark_beside_owed s q c.args.task e c.self.invariant here))
