use Rattle.std.proofs.Common.{◌≡◌, ℕ, ◌+◌, ◌<◌, ◌∷◌, refl, sym, ap, ◌∙◌, arith, rules}
use Rattle.std.specs.{Prelude.ℤ, Prelude.map, FinMap.get, FinMap.entries}
use Rattle.std.proofs.lemmas.Int.{to_z-of_z}
use mir.Syntax.{w64}
use mir.Val.{SFits}
use Rattle.eevdf_queue.specs.Ascending.{from_number, with_lag}
use Rattle.eevdf_queue.proofs.Ascending.{numbered, one_asleep, at_end}
use Rattle.eevdf_queue.proofs.queue.Queue.asleep_from.Goals as goal

pub returns-in-Some : goal.returns-in-Some
returns-in-Some c =
    let is : c.in_ok-task.task ≡ c.loop-number.number = numbered _ _ (sym c.new.ensures ∙ c.in_ok-task.was) in
    let fits : SFits w64 c.in-Some.lag = search rules in
    ap (map with_lag)
    (c.loop-number.invariant ∙ ap (λ (k : ℕ). from_number k (entries c.args.self.now.state.asleep)) (sym is))
    ∙ one_asleep c.in_ok-task.task c.in-Some.lag c.args.self.now.state.asleep
    (get c.args.self.now.state.asleep c.in_ok-task.task) refl (sym c.kept_asleep.ensures ∙ c.in-Some.is)
    ∙ ap
    (λ (lag : ℤ). (c.in_ok-task.task, lag) ∷ map with_lag (from_number (c.in_ok-task.task + 1) (entries c.args.self.now.state.asleep)))
    (sym (to_z-of_z w64 c.in-Some.lag fits))

pub returns : goal.returns
returns c =
    c.loop-number.invariant
    ∙ at_end c.loop-number.number c.args.self.now.state.asleep
    (λ t s h. let below : t < 1024 = (c.keeps.ensures.limited t s h).0 in omega arith)
