use Rattle.std.proofs.Common.{◌≡◌, ◌∙◌, ◌+◌, ℕ, ap, arith}
use Rattle.std.specs.{Prelude.ℤ, Prelude.pos, Prelude.◌+ℤ◌, Prelude.◌*ℤ◌}
use Rattle.eevdf_weight.specs.Weight.{weight_of}
use Rattle.eevdf_queue.specs.{declared.entry.Entry.Entry, TaskLists.find_task}
use Rattle.eevdf_queue.proofs.TreeMaps.{entry_here}
use Rattle.eevdf_queue.proofs.TreeTotals.{totals-moved, entry_found}
use Rattle.eevdf_queue.specs.State.{TasksInTree}
use Rattle.eevdf_queue.proofs.tree.runnable_tasks.RunnableTasks.renew.Goals as goal

pub invariant_of-self : goal.invariant_of-self
invariant_of-self c =
    let g = entry_found (find_task c.args.task c.self.inside.tree.tasks) c.args.older.now (entry_here c.args.task c.args.older.now c.self.inside.tree.tasks c.args.self.now.tasks (ap (λ (w : TasksInTree). w.tasks) c.self.view_is) c.requires.here) in
    let n : c.args.older.now.nice ≡ c.args.newer.nice = ap (λ (z : Entry). z.nice) c.requires.same in
    record {
      store = c.replace.ensures.stored;
      totals =
          totals-moved c.args.task g.0 c.args.older.now c.args.newer c.self.inside.tree.tasks c.replace.new.tree.tasks c.self.inside.totals c.correct_moment.new.totals
          c.self.invariant.totals g.1.0 g.1.1
          (ap (λ (z : ℕ). weight_of c.args.older.now.nice + z) c.correct_moment.ensures.weight ∙ ap (λ (z : ℤ). weight_of z + c.self.inside.totals.weight) n)
          (c.correct_moment.ensures.moment ∙ ap (λ (z : ℤ). (c.args.newer.v *ℤ pos (weight_of z)) +ℤ c.self.inside.totals.moment) n)
          (c.replace.ensures.tree g.0 g.1.0);
      picked = λ k. absurd (omega (arith, c.forget.ensures.number));
      pick = λ k. absurd (omega (arith, c.forget.ensures.number));
    }
