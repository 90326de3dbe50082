use Rattle.std.proofs.Common.{◌∙◌, ℕ, ap, sym, subst}
use Rattle.std.specs.Prelude.{IfSome}
use Rattle.std.specs.FinMap as map
use Rattle.eevdf_queue.specs.{TreeShape.IsFull, Pick.is_eligible_at}
use Rattle.eevdf_queue.proofs.{Descending.differ_runnable, PickedTasks.first_entry, PickedTasks.first_depth, RunnableMaps.len-runnable_in, SomeEligible.someone_eligible}
use Rattle.eevdf_queue.specs.State.{TasksInTree}
use Rattle.eevdf_queue.proofs.tree.runnable_tasks.RunnableTasks.first.Goals as goal

pub returns-clause-low : goal.returns-clause-low
returns-clause-low c =
    subst (λ (z : ℕ). IfSome c.earliest.result (λ f. IsFull f.depth z)) (sym (len-runnable_in c.self.inside.tree.tasks c.self.invariant.store.runnable) ∙ ap (λ m. map.len m) (ap (λ (w : TasksInTree). w.tasks) c.self.view_is)) c.earliest.ensures.low

pub returns-clause-here : goal.returns-clause-here
returns-clause-here c =
    first_entry (λ f. f.task.now) (is_eligible_at c.args.totals.now.weight c.args.totals.now.moment) c.self.inside.tree.tasks c.args.self.now.tasks c.earliest.result c.self.invariant.store.runnable (ap (λ (w : TasksInTree). w.tasks) c.self.view_is)
    c.earliest.ensures.task

pub earliest-requires-clause-some : goal.earliest-requires-clause-some
earliest-requires-clause-some c =
    someone_eligible c.self.inside.tree.tasks c.args.self.now.tasks c.args.totals.now.weight c.args.totals.now.moment c.self.invariant.store.runnable (ap (λ (w : TasksInTree). w.tasks) c.self.view_is) c.requires.weight c.requires.moment

pub earliest-requires-clause-differ : goal.earliest-requires-clause-differ
earliest-requires-clause-differ c = differ_runnable c.self.inside.tree.tasks c.self.invariant.store.runnable

pub returns-clause-depth : goal.returns-clause-depth
returns-clause-depth c =
    first_depth (λ f. f.task.now.number) (λ f. f.depth) c.self.inside.tree c.args.self.now c.earliest.result c.self.view_is c.earliest.ensures.depth c.earliest.ensures.positive
