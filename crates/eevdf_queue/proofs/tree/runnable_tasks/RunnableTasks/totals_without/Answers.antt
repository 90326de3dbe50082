use Rattle.std.proofs.Common.{◌≡◌, ◌∙◌, ℕ, ◌+◌, ◌≤◌, Some, refl, ap, sym, subst}
use Rattle.std.specs.{Prelude.◌+ℤ◌, FinMap.get}
use Rattle.std.specs.FinMap as map
use Rattle.eevdf_queue.specs.{declared.task.Task.Task, declared.tree.totals.Totals.Totals, TaskLists.find_task, TaskLists.runnable_in}
use Rattle.eevdf_queue.specs.{TreeTasks.without, TreeStores.IsSummedStore}
use Rattle.eevdf_queue.specs.Sums.{Tasks, total_weight, total_moment}
use Rattle.eevdf_queue.proofs.RunnableMaps.{get-runnable_in, total_weight-runnable_in, total_moment-runnable_in}
use Rattle.eevdf_queue.proofs.{TreeMaps.taken_stored, TreeMaps.taken_seen, PickedTasks.sums_kept}
use Rattle.eevdf_queue.proofs.TreeTotals.{entry_found, totals-without, totals_part, totals_near, totals_few, totals_small}
use Rattle.eevdf_queue.specs.State.{TasksInTree}
use Rattle.eevdf_queue.proofs.tree.runnable_tasks.RunnableTasks.totals_without.Goals as goal
use Rattle.eevdf_queue.proofs.tree.runnable_tasks.RunnableTasks.totals_without.Goals.{After-share}

-- the task that is left out
left_out : (c : After-share) → (t : Task) × ((find_task c.args.task c.self.inside.tree.tasks ≡ Some t) × (t.entry ≡ c.args.entry.now))
left_out c =
    entry_found (find_task c.args.task c.self.inside.tree.tasks) c.args.entry.now
    (sym (get-runnable_in c.self.inside.tree.tasks c.args.task) ∙ ap (λ (m : Tasks). get m c.args.task) (ap (λ (w : TasksInTree). w.tasks) c.self.view_is) ∙ c.requires)

pub without_share-requires-clause-part : goal.without_share-requires-clause-part
without_share-requires-clause-part c =
    let t = left_out (goal.at.without_share-requires-clause-part c).After-share in
    subst (λ (z : ℕ). z ≤ c.self.inside.totals.weight) (sym c.share.ensures.weight)
    (totals_part c.args.task t.0 c.args.entry.now c.self.inside.totals c.self.inside.tree.tasks c.self.invariant.totals t.1.0 t.1.1)

pub without_share-requires-clause-small : goal.without_share-requires-clause-small
without_share-requires-clause-small c = totals_near c.self.inside.deadlines c.self.inside.totals c.self.inside.tree.tasks (sums_kept _ _ _ _ c.self.invariant)

-- the sums are those of the store without it
module _ (c : After-share) (r : Totals) (w : c.self.inside.totals.weight ≡ c.share.result.weight + r.weight) (m : c.self.inside.totals.moment ≡ c.share.result.moment +ℤ r.moment) where
  summed : IsSummedStore c.self.inside.deadlines r (without c.args.task c.self.inside.tree.tasks)
  summed =
      let t = left_out c in
      record {
        store = taken_stored c.self.inside.deadlines c.args.task t.0 c.self.inside.tree.tasks (without c.args.task c.self.inside.tree.tasks) c.self.invariant.store t.1.0 refl;
        totals =
            totals-without c.args.task t.0 c.args.entry.now c.self.inside.tree.tasks (without c.args.task c.self.inside.tree.tasks) c.self.inside.totals r
            c.share.result.weight c.share.result.moment c.self.invariant.totals t.1.0 t.1.1 refl c.share.ensures.weight c.share.ensures.moment w m;
      }

  seen : (t : Task) → find_task c.args.task c.self.inside.tree.tasks ≡ Some t → runnable_in (without c.args.task c.self.inside.tree.tasks) ≡ map.remove c.args.self.now.tasks c.args.task
  seen t f = taken_seen c.self.inside.deadlines c.args.task t c.self.inside.tree.tasks (without c.args.task c.self.inside.tree.tasks) c.self.invariant.store f refl c.args.self.now.tasks (ap (λ (w : TasksInTree). w.tasks) c.self.view_is)

  weighed : r.weight ≡ total_weight (map.remove c.args.self.now.tasks c.args.task)
  weighed = summed.totals.weight ∙ sym (total_weight-runnable_in (without c.args.task c.self.inside.tree.tasks) summed.store.runnable) ∙ ap total_weight (seen (left_out c).0 (left_out c).1.0)

  moved : r.moment ≡ total_moment (map.remove c.args.self.now.tasks c.args.task)
  moved = summed.totals.moment ∙ sym (total_moment-runnable_in (without c.args.task c.self.inside.tree.tasks) summed.store.runnable) ∙ ap total_moment (seen (left_out c).0 (left_out c).1.0)

pub returns-clause-weight : goal.returns-clause-weight
returns-clause-weight c = weighed (goal.at.returns-clause-weight c).After-share c.without_share.result c.without_share.ensures.weight c.without_share.ensures.moment

pub returns-clause-moment : goal.returns-clause-moment
returns-clause-moment c = moved (goal.at.returns-clause-moment c).After-share c.without_share.result c.without_share.ensures.weight c.without_share.ensures.moment

pub returns-clause-few : goal.returns-clause-few
returns-clause-few c =
    let a = (goal.at.returns-clause-few c).After-share in
    totals_few _ _ _ (summed a c.without_share.result c.without_share.ensures.weight c.without_share.ensures.moment)

pub returns-clause-small : goal.returns-clause-small
returns-clause-small c =
    let a = (goal.at.returns-clause-small c).After-share in
    totals_small _ _ _ (summed a c.without_share.result c.without_share.ensures.weight c.without_share.ensures.moment)
