use Rattle.std.proofs.Common.{◌≡◌, ◌∙◌, ℕ, ◌<◌, ap, sym, subst, arith}
use Rattle.std.specs.FinMap as map
use Rattle.eevdf_queue.specs.{declared.task.Task.Task, State.Contents, TaskLists.first_task}
use Rattle.eevdf_queue.proofs.TreeMaps.{find_absent, added_stored, added_seen}
use Rattle.eevdf_queue.proofs.PickedTasks.{sums_kept, still_known}
use Rattle.eevdf_queue.proofs.TreeTotals.{totals-insert, totals_few}
use Rattle.eevdf_queue.specs.State.{TasksInTree}
use Rattle.eevdf_queue.proofs.tree.runnable_tasks.RunnableTasks.add.Goals as goal

pub invariant_of-self : goal.invariant_of-self
invariant_of-self c =
    let k : (first_task c.into_node.result.value.tasks).number ≡ c.args.parcel.task = ap (λ (p : Contents). p.task) c.into_node.ensures.contents in
    let t : Task = record (first_task c.into_node.result.value.tasks) { entry = c.args.entry } in
    record {
      store =
          added_stored c.self.inside.deadlines c.put.new.deadlines t c.self.inside.tree.tasks c.put.new.tree.tasks c.args.self.now.tasks c.self.invariant.store (ap (λ (w : TasksInTree). w.tasks) c.self.view_is)
          (ap (map.get c.args.self.now.tasks) k ∙ c.requires.absent) (subst (λ (z : ℕ). z < 1024) (sym k) c.into_node.ensures.below) c.put.ensures.tree c.requires.in_range c.put.ensures.table;
      totals =
          totals-insert t c.self.inside.tree.tasks c.put.new.tree.tasks c.self.inside.totals c.with_share-self-inside.result c.share.result.weight c.share.result.moment c.self.invariant.totals c.put.ensures.tree
          c.share.ensures.weight c.share.ensures.moment c.with_share-self-inside.ensures.weight c.with_share-self-inside.ensures.moment;
      picked =
          still_known c.self.inside.picked t c.self.inside.tree.tasks c.put.new.tree.tasks c.self.invariant.picked
          (find_absent c.self.inside.tree.tasks c.args.self.now.tasks t.number (ap (λ (w : TasksInTree). w.tasks) c.self.view_is) (ap (map.get c.args.self.now.tasks) k ∙ c.requires.absent)) c.put.ensures.tree;
      pick = λ k l. absurd (omega arith);
    }

pub returns : goal.returns
returns c =
    let k : (first_task c.into_node.result.value.tasks).number ≡ c.args.parcel.task = ap (λ (p : Contents). p.task) c.into_node.ensures.contents in
    let t : Task = record (first_task c.into_node.result.value.tasks) { entry = c.args.entry } in
    added_seen c.self.inside.deadlines c.put.new.deadlines t c.self.inside.tree.tasks c.put.new.tree.tasks c.args.self.now.tasks c.self.invariant.store (ap (λ (w : TasksInTree). w.tasks) c.self.view_is)
    (ap (map.get c.args.self.now.tasks) k ∙ c.requires.absent) (subst (λ (z : ℕ). z < 1024) (sym k) c.into_node.ensures.below) c.put.ensures.tree
    ∙ ap (λ (q : ℕ). map.insert c.args.self.now.tasks q c.args.entry) k

pub with_share-self-inside-requires-clause-few : goal.with_share-self-inside-requires-clause-few
with_share-self-inside-requires-clause-few c = omega (arith, totals_few c.self.inside.deadlines c.self.inside.totals c.self.inside.tree.tasks (sums_kept _ _ _ _ c.self.invariant))
