use Rattle.std.proofs.Common.{◌≡◌, ℕ, ℤ, Option, Some, sym, subst, ap, ◌∙◌, rules}
use Rattle.std.specs.{Prelude.IfSome, FinMap.get}
use mir.Syntax.{w64}
use mir.Val.{SFits}
use Rattle.std.proofs.lemmas.Int.{to_z-of_z}
use Rattle.eevdf_weight.specs.{Weight.weight_of}
use Rattle.eevdf_fair_queue.specs.{ShareClock.lack_since, Beside.SharesView, Beside.LacksNoMoreOf}
use Rattle.eevdf_fair_queue.proofs.Beside.{bound_beside_owed}
use Rattle.eevdf_fair_queue.proofs.shares.Shares.share_bound.Goals as goal

pub returns-clause-owed : goal.returns-clause-owed
returns-clause-owed c =
    let s : SharesView = record { clock = c.self.inside.clock; load = c.self.inside.load } in
    let q = c.args.queue.now.state in
    let e = c.in-Some.entry in
    let m = c.args.mark in
    let here : get q.runnable c.args.task ≡ Some e = sym c.entry.ensures ∙ c.in-Some.is in
    let runtime : SFits w64 e.v = search rules in
    let is : c.lack_since.result ≡ lack_since s.clock s.load e.v (weight_of e.nice) m =
    c.lack_since.ensures ∙ ap (λ (z : ℤ). lack_since s.clock s.load z c.weight.result m) (to_z-of_z w64 e.v runtime)
    ∙ ap (λ (w : ℕ). lack_since s.clock s.load e.v w m) c.weight.ensures.value in
    subst (λ (x : SharesView). IfSome c.lack_since.result (LacksNoMoreOf x q c.args.task m)) c.self.view_is
    (subst (λ (o : Option ℕ). IfSome o (LacksNoMoreOf s q c.args.task m)) (sym is)
    (bound_beside_owed s q c.args.task e m c.self.invariant here))
