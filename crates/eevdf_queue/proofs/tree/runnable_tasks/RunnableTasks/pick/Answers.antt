use Rattle.std.proofs.Common.{◌≡◌, ◌∙◌, ℕ, Option, Some, ap, sym, subst, rules}
use Rattle.std.specs.Prelude.{ℤ, IfSome, IsNone, ◌↔◌}
use Rattle.std.proofs.lemmas.Int.{to_z-of_z}
use mir.Syntax.{w64}
use mir.Val.{SFits}
use Rattle.std.specs.Option.{option_map}
use Rattle.std.specs.FinMap as map
use Rattle.eevdf_queue.specs.{declared.tree.node.Found.Found, Pick.IsPick, Pick.pick_of, TreeShape.IsFull}
use Rattle.eevdf_queue.proofs.Picked.{picked, none_picked, first_is_pick}
use Rattle.eevdf_queue.proofs.PickedTasks.{known_of, still_pick}
use Rattle.eevdf_queue.specs.State.{TasksInTree}
use Rattle.eevdf_queue.proofs.tree.runnable_tasks.RunnableTasks.pick.Goals as goal
use Rattle.eevdf_queue.proofs.tree.runnable_tasks.RunnableTasks.pick.Goals.{After-first}

abbrev number_of : Found → ℕ
number_of f = f.task.now.number

-- what is found first is the pick
is_pick : (c : After-first) → option_map number_of c.first.result ≡ pick_of c.args.self.now.tasks
is_pick c =
    first_is_pick c.args.self.now.tasks (option_map number_of c.first.result) c.of-threshold.result.weight c.of-threshold.result.moment (c.of-threshold.ensures.weight ∙ c.totals-totals.ensures.weight) (c.of-threshold.ensures.moment ∙ c.totals-totals.ensures.moment) c.first.ensures.number

pub returns-in_default-clause-none : goal.returns-in_default-clause-none
returns-in_default-clause-none c =
    subst (λ (o : Option Found). IsNone (option_map number_of o) ↔ (c.args.self.now.tasks ≡ map.empty)) c.in_default.is
    (none_picked c.args.self.now.tasks (option_map number_of c.first.result) (is_pick (goal.at.returns-in_default-clause-none c).After-first))

pub invariant_of-self : goal.invariant_of-self
invariant_of-self c =
    let v : ℤ = c.of-picked.result.runtime in
    let fits : SFits w64 v = search rules in
    record {
      store = c.self.invariant.store;
      totals = c.self.invariant.totals;
      picked =
          known_of _ _ _ _ c.self.inside.tree.tasks c.args.self.now.tasks c.in-Some.first.task.now (ap (λ (w : TasksInTree). w.tasks) c.self.view_is) c.in-Some.ensures.here
          c.of-picked.ensures.number (to_z-of_z w64 v fits ∙ c.of-picked.ensures.runtime) c.of-picked.ensures.nice c.of-picked.ensures.slice;
      pick = λ _ _.
          still_pick c.self.inside.tree c.args.self.now c.of-picked.result.number c.of-picked.result.depth c.self.view_is c.self.invariant.store.runnable
          (ap (λ (q : ℕ). Some q) c.of-picked.ensures.number
          ∙ subst (λ (o : Option Found). option_map number_of o ≡ pick_of c.args.self.now.tasks) c.in-Some.is (is_pick (goal.at.invariant_of-self c).After-first))
          (subst (λ (z : ℕ). IsFull z (map.len c.args.self.now.tasks)) (sym c.of-picked.ensures.depth) c.in-Some.ensures.low)
          (ap (map.get c.args.self.now.depths) c.of-picked.ensures.number ∙ c.in-Some.ensures.depth ∙ ap (λ (z : ℕ). Some z) (sym c.of-picked.ensures.depth));
    }

pub returns-clause-picked : goal.returns-clause-picked
returns-clause-picked c =
    subst (λ (o : Option Found). IfSome (option_map number_of o) (IsPick c.args.self.now.tasks)) c.in-Some.is
    (picked c.args.self.now.tasks (option_map number_of c.first.result) (is_pick (goal.at.returns-clause-picked c).After-first))

pub returns-clause-none : goal.returns-clause-none
returns-clause-none c =
    subst (λ (o : Option Found). IsNone (option_map number_of o) ↔ (c.args.self.now.tasks ≡ map.empty)) c.in-Some.is
    (none_picked c.args.self.now.tasks (option_map number_of c.first.result) (is_pick (goal.at.returns-clause-none c).After-first))
