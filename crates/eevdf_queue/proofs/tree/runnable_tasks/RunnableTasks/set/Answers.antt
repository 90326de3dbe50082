use Rattle.std.proofs.Common.{ap, arith}
use Rattle.eevdf_queue.specs.{TaskLists.find_task}
use Rattle.eevdf_queue.proofs.PickedTasks.{sums_kept}
use Rattle.eevdf_queue.proofs.TreeMaps.{entry_here}
use Rattle.eevdf_queue.proofs.TreeTotals.{totals-moved, totals_part, totals_few, entry_found}
use Rattle.eevdf_queue.specs.State.{TasksInTree}
use Rattle.eevdf_queue.proofs.tree.runnable_tasks.RunnableTasks.set.Goals as goal

pub invariant_of-self : goal.invariant_of-self
invariant_of-self c =
    let g = entry_found (find_task c.args.task c.self.inside.tree.tasks) c.args.older.now (entry_here c.args.task c.args.older.now c.self.inside.tree.tasks c.args.self.now.tasks (ap (λ (w : TasksInTree). w.tasks) c.self.view_is) c.requires.here) in
    record {
      store = c.replace.ensures.stored;
      totals =
          totals-moved c.args.task g.0 c.args.older.now c.args.entry c.self.inside.tree.tasks c.replace.new.tree.tasks c.self.inside.totals c.exchanged-self-inside.result
          c.self.invariant.totals g.1.0 g.1.1
          c.exchanged-self-inside.ensures.weight
          c.exchanged-self-inside.ensures.moment
          (c.replace.ensures.tree g.0 g.1.0);
      picked = λ k. absurd (omega (arith, c.forget.ensures.number));
      pick = λ k. absurd (omega (arith, c.forget.ensures.number));
    }

pub exchanged-self-inside-requires-clause-part : goal.exchanged-self-inside-requires-clause-part
exchanged-self-inside-requires-clause-part c =
    let g = entry_found (find_task c.args.task c.self.inside.tree.tasks) c.args.older.now (entry_here c.args.task c.args.older.now c.self.inside.tree.tasks c.args.self.now.tasks (ap (λ (w : TasksInTree). w.tasks) c.self.view_is) c.requires.here) in
    totals_part c.args.task g.0 c.args.older.now c.self.inside.totals c.self.inside.tree.tasks c.self.invariant.totals g.1.0 g.1.1

pub exchanged-self-inside-requires-clause-few : goal.exchanged-self-inside-requires-clause-few
exchanged-self-inside-requires-clause-few c = totals_few c.self.inside.deadlines c.self.inside.totals c.self.inside.tree.tasks (sums_kept _ _ _ _ c.self.invariant)
