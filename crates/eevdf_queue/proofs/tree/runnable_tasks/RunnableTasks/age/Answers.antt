use Rattle.std.proofs.Common.{◌≡◌, ◌∙◌, ◌+◌, ℕ, refl, ap, sym, subst, arith}
use Rattle.std.specs.{Prelude.ℤ, Prelude.pos, Prelude.◌+ℤ◌, Prelude.◌*ℤ◌}
use Rattle.eevdf_weight.specs.Weight.{weight_of}
use Rattle.eevdf_queue.specs.{declared.entry.Entry.Entry, declared.tree.key.TreeKey.TreeKey, TreeTasks.IsAtDeadline}
use Rattle.eevdf_queue.specs.TaskLists.{find_task, set_entry}
use Rattle.eevdf_queue.proofs.{TreeMaps.entry_here, TreeAge.at_deadline, TreeChange.stored-set}
use Rattle.eevdf_queue.proofs.TreeTotals.{totals-set, entry_found}
use Rattle.eevdf_queue.specs.State.{TasksInTree}
use Rattle.eevdf_queue.proofs.tree.runnable_tasks.RunnableTasks.age.Goals as goal
use Rattle.eevdf_queue.proofs.tree.runnable_tasks.RunnableTasks.age.Goals.{After-age}

pub age-requires-clause-placed : goal.age-requires-clause-placed
age-requires-clause-placed c =
    subst (λ (k : TreeKey). IsAtDeadline k.deadline (find_task k.number c.self.inside.tree.tasks)) (sym c.of-key.ensures)
    (at_deadline c.args.older.now c.args.older.now.d (find_task c.args.task c.self.inside.tree.tasks) (entry_here c.args.task c.args.older.now c.self.inside.tree.tasks c.args.self.now.tasks (ap (λ (w : TasksInTree). w.tasks) c.self.view_is) c.requires.here) refl)

changed : (c : After-age) → c.age.new.self.tasks ≡ set_entry c.args.task c.args.newer.now c.self.inside.tree.tasks
changed c = c.age.ensures ∙ ap (λ (k : TreeKey). set_entry k.number c.args.newer.now c.self.inside.tree.tasks) c.of-key.ensures

pub invariant_of-self : goal.invariant_of-self
invariant_of-self c =
    let h = entry_here c.args.task c.args.older.now c.self.inside.tree.tasks c.args.self.now.tasks (ap (λ (w : TasksInTree). w.tasks) c.self.view_is) c.requires.here in
    let i = changed (goal.at.invariant_of-self c).After-age in
    let g = entry_found (find_task c.args.task c.self.inside.tree.tasks) c.args.older.now h in
    let d : c.args.older.now.d ≡ c.args.newer.now.d = ap (λ (z : Entry). z.d) c.requires.same in
    let n : c.args.older.now.nice ≡ c.args.newer.now.nice = ap (λ (z : Entry). z.nice) c.requires.same in
    record {
      store =
          stored-set c.self.inside.deadlines c.args.task c.args.newer.now c.self.inside.tree.tasks c.age.new.self.tasks c.self.invariant.store
          (at_deadline c.args.older.now c.args.newer.now.d (find_task c.args.task c.self.inside.tree.tasks) h d) c.requires.in_range i;
      totals =
          totals-set c.args.task g.0 c.args.older.now c.args.newer.now c.self.inside.tree.tasks c.age.new.self.tasks c.self.inside.totals c.correct_moment.new.totals
          c.self.invariant.totals g.1.0 g.1.1
          (ap (λ (z : ℕ). weight_of c.args.older.now.nice + z) c.correct_moment.ensures.weight ∙ ap (λ (z : ℤ). weight_of z + c.self.inside.totals.weight) n)
          (c.correct_moment.ensures.moment ∙ ap (λ (z : ℤ). (c.args.newer.now.v *ℤ pos (weight_of z)) +ℤ c.self.inside.totals.moment) n) i;
      picked = λ k. absurd (omega (arith, c.forget.ensures.number));
      pick = λ k. absurd (omega (arith, c.forget.ensures.number));
    }
