use Rattle.std.proofs.Common.{◌≡◌, ◌∙◌, to_z, of_z, sym, ap, arith}
use Rattle.std.specs.{Prelude.ℤ, Prelude.pos, Prelude.◌-ℤ◌, Prelude.◌*ℤ◌, Prelude.neg_ℤ}
use Rattle.std.proofs.lemmas.Int.{to_z-of_z}
use mir.Syntax.{w64}
use Rattle.eevdf_queue.specs.{State.TasksInTree, Rebase.can_lower, Rebase.lowered_tasks, TaskLists.runnable_in, TreeStores.kept_at}
use Rattle.eevdf_queue.specs.TreeLowering.{lowered_list, are_tasks_in_range}
use Rattle.eevdf_queue.proofs.{LoweredMaps.can-lower, LoweredMaps.seen-lowered, PickedTasks.sums_kept}
use Rattle.eevdf_queue.proofs.{LoweredStores.known_within, LoweredStores.store_lowered, LoweredStores.store_back, LoweredStores.tasks_back, LoweredStores.noted_twice}
use Rattle.eevdf_queue.proofs.TreeTotals.{totals_few}
use Rattle.eevdf_queue.proofs.tree.runnable_tasks.RunnableTasks.lower.Goals as goal
use Rattle.eevdf_queue.proofs.tree.runnable_tasks.RunnableTasks.lower.Goals.{After-lower, After-lower-then-not-lower}

-- the tasks after the first walk, and whether they are in range
module _ (c : After-lower) where
  lowered : c.lower.new.self.tasks ≡ lowered_list c.args.by c.self.inside.tree.tasks
  lowered = c.lower.ensures.tasks ∙ ap (λ (z : ℤ). lowered_list z c.self.inside.tree.tasks) (to_z-of_z w64 c.args.by c.ranges.by)

  view : runnable_in c.self.inside.tree.tasks ≡ c.args.self.now.tasks
  view = ap (λ (w : TasksInTree). w.tasks) c.self.view_is

  ranged : c.lower.result ≡ can_lower c.args.by c.args.self.now.tasks
  ranged =
      c.lower.ensures.in_range
      ∙ ap are_tasks_in_range lowered
      ∙ sym (can-lower c.args.by c.self.inside.tree.tasks c.self.invariant.store.runnable)
      ∙ ap (can_lower c.args.by) view

-- and after the second one
back : (c : After-lower-then-not-lower) → c.lower-then-not-lower.new.self.tasks ≡ c.self.inside.tree.tasks
back c =
    let n : to_z w64 (of_z w64 c.opposite.result) ≡ neg_ℤ c.args.by =
    to_z-of_z w64 c.opposite.result (record { sfits = c.opposite.type_inv }) ∙ c.opposite.ensures.value ∙ ap neg_ℤ (to_z-of_z w64 c.args.by c.ranges.by) in
    tasks_back c.args.by c.self.inside.tree.tasks c.lower.new.self.tasks c.lower-then-not-lower.new.self.tasks
    (c.lower.ensures.tasks ∙ ap (λ (z : ℤ). lowered_list z c.self.inside.tree.tasks) (to_z-of_z w64 c.args.by c.ranges.by))
    (c.lower-then-not-lower.ensures.tasks ∙ ap (λ (z : ℤ). lowered_list z c.lower.new.self.tasks) n)

pub invariant_of-self : goal.invariant_of-self
invariant_of-self c =
    let is = back (goal.at.invariant_of-self c).After-lower-then-not-lower in
    store_back c.self.inside.deadlines c.lower-then-not-lower.new.deadlines c.self.inside.totals c.self.inside.picked c.self.inside.tree c.lower-then-not-lower.new.self c.self.invariant is
    (c.lower-then-not-lower.ensures.depths ∙ c.lower.ensures.depths)
    (λ q. noted_twice c.args.by q (kept_at c.self.inside.deadlines q) (kept_at c.lower.new.deadlines q) (kept_at c.lower-then-not-lower.new.deadlines q)
    c.self.inside.tree.tasks c.lower.new.self.tasks c.lower-then-not-lower.new.self.tasks (lowered (goal.at.invariant_of-self c).After-lower) is
    (c.lower.ensures.noted q) (c.lower-then-not-lower.ensures.noted q))

pub returns-then-not-lower-clause-in_range : goal.returns-then-not-lower-clause-in_range
returns-then-not-lower-clause-in_range c = sym c.if-not-lower.true ∙ ranged (goal.at.returns-then-not-lower-clause-in_range c).After-lower

pub returns-then-not-lower-clause-stayed : goal.returns-then-not-lower-clause-stayed
returns-then-not-lower-clause-stayed c = λ _.
    ap runnable_in (back (goal.at.returns-then-not-lower-clause-stayed c).After-lower-then-not-lower) ∙ view (goal.at.returns-then-not-lower-clause-stayed c).After-lower

pub lower_moment-requires-clause-few : goal.lower_moment-requires-clause-few
lower_moment-requires-clause-few c =
    omega (arith, totals_few c.self.inside.deadlines c.self.inside.totals c.self.inside.tree.tasks (sums_kept _ _ _ _ c.self.invariant))

pub lower-requires-2-clause-near : goal.lower-requires-2-clause-near
lower-requires-2-clause-near c = known_within c.self.inside.deadlines c.self.inside.totals c.self.inside.picked c.self.inside.tree c.self.invariant

pub invariant_of-self-2 : goal.invariant_of-self-2
invariant_of-self-2 c =
    let b : to_z w64 (of_z w64 c.args.by) ≡ c.args.by = to_z-of_z w64 c.args.by c.ranges.by in
    store_lowered c.args.by c.self.inside.deadlines c.lower.new.deadlines c.self.inside.totals c.lower_moment.new.totals c.self.inside.picked c.lower-2.new.self
    c.self.inside.tree c.lower.new.self c.self.invariant (lowered (goal.at.invariant_of-self-2 c).After-lower) c.lower.ensures.depths
    (sym c.lower.ensures.in_range ∙ c.if-not-lower.false) c.lower.ensures.noted c.lower_moment.ensures.weight
    (c.lower_moment.ensures.moment ∙ ap (λ (z : ℤ). c.self.inside.totals.moment -ℤ (z *ℤ pos c.self.inside.totals.weight)) b)
    (λ k. c.lower-2.ensures.runtime k ∙ ap (λ (z : ℤ). c.self.inside.picked.runtime -ℤ z) b)
    c.lower-2.ensures.number c.lower-2.ensures.nice c.lower-2.ensures.slice c.lower-2.ensures.depth

pub returns-clause-in_range : goal.returns-clause-in_range
returns-clause-in_range c = sym c.if-not-lower.false ∙ ranged (goal.at.returns-clause-in_range c).After-lower

pub returns-clause-lowered : goal.returns-clause-lowered
returns-clause-lowered c = λ _.
    ap runnable_in (lowered (goal.at.returns-clause-lowered c).After-lower) ∙ seen-lowered c.args.by c.self.inside.tree.tasks
    ∙ ap (lowered_tasks c.args.by) (view (goal.at.returns-clause-lowered c).After-lower)
