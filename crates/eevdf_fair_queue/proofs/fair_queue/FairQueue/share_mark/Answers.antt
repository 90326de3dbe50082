use Rattle.std.proofs.Common.{◌≡◌, ℕ, ℤ, Option, Some, sym, subst, ap, ◌∙◌, rules}
use Rattle.std.specs.{Prelude.IfSome, FinMap.get}
use mir.Syntax.{w64}
use mir.Val.{SFits}
use Rattle.std.proofs.lemmas.Int.{to_z-of_z}
use Rattle.eevdf_fair_queue.specs.{declared.share_clock.ShareMark.ShareMark, Fair.FairView, ShareClock.mark_of}
use Rattle.eevdf_fair_queue.specs.Owed.{load_of, no_share, IsOwed}
use Rattle.eevdf_fair_queue.proofs.Marks.{mark_owed}
use Rattle.eevdf_fair_queue.proofs.fair_queue.FairQueue.share_mark.Goals as goal

pub returns-clause-owed : goal.returns-clause-owed
returns-clause-owed c =
    let f : FairView = record { queue = c.self.inside.queue; bounds = c.self.inside.bounds; clock = c.self.inside.clock } in
    let e = c.in-Some.entry in
    let here : get f.queue.state.runnable c.args.task ≡ Some e = sym c.entry.ensures ∙ c.in-Some.is in
    let runtime : SFits w64 e.v = search rules in
    let is : c.mark.result ≡ mark_of f.clock (load_of f) e.v =
    c.mark.ensures ∙ ap (λ (z : ℤ). mark_of f.clock c.load.result z) (to_z-of_z w64 e.v runtime) ∙ ap (λ (n : ℕ). mark_of f.clock n e.v) c.load.ensures in
    subst (λ (x : FairView). IfSome c.mark.result (λ m. IsOwed x c.args.task m no_share 0)) c.self.view_is
    (subst (λ (o : Option ShareMark). IfSome o (λ m. IsOwed f c.args.task m no_share 0)) (sym is) (mark_owed f c.args.task e here))
