use Rattle.std.proofs.Common.{◌≡◌, ℕ, ℤ, Option, Some, sym, subst, ap, ◌∙◌, rules}
use Rattle.std.specs.{Prelude.IfSome, FinMap.get}
use mir.Syntax.{w64}
use mir.Val.{SFits}
use Rattle.std.proofs.lemmas.Int.{to_z-of_z}
use Rattle.eevdf_weight.specs.{Weight.weight_of}
use Rattle.eevdf_fair_queue.specs.{Fair.FairView, ShareClock.lack_since}
use Rattle.eevdf_fair_queue.specs.Owed.{load_of, LacksNoMore}
use Rattle.eevdf_fair_queue.proofs.Marks.{bound_owed}
use Rattle.eevdf_fair_queue.proofs.fair_queue.FairQueue.share_bound.Goals as goal

pub returns-clause-owed : goal.returns-clause-owed
returns-clause-owed c =
    let f : FairView = record { queue = c.self.inside.queue; bounds = c.self.inside.bounds; clock = c.self.inside.clock } in
    let e = c.in-Some.entry in
    let m = c.args.mark in
    let here : get f.queue.state.runnable c.args.task ≡ Some e = sym c.entry.ensures ∙ c.in-Some.is in
    let runtime : SFits w64 e.v = search rules in
    let is : c.lack_since.result ≡ lack_since f.clock (load_of f) e.v (weight_of e.nice) m =
    c.lack_since.ensures ∙ ap (λ (z : ℤ). lack_since f.clock c.load-load.result z c.weight.result m) (to_z-of_z w64 e.v runtime)
    ∙ ap (λ (n : ℕ). lack_since f.clock n e.v c.weight.result m) c.load-load.ensures
    ∙ ap (λ (w : ℕ). lack_since f.clock (load_of f) e.v w m) c.weight.ensures.value in
    subst (λ (x : FairView). IfSome c.lack_since.result (LacksNoMore x c.args.task m)) c.self.view_is
    (subst (λ (o : Option ℕ). IfSome o (LacksNoMore f c.args.task m)) (sym is) (bound_owed f c.args.task e m here))
