use Rattle.std.proofs.Common.{ap, subst}
use Rattle.eevdf_queue.specs.Kept.{AreInRange}
use Rattle.eevdf_queue.proofs.RunnableMaps.{in_range_in}
use Rattle.eevdf_queue.specs.State.{TasksInTree}
use Rattle.eevdf_queue.proofs.tree.runnable_tasks.RunnableTasks.keeps.Goals as goal

pub returns : goal.returns
returns c = subst AreInRange (ap (λ (w : TasksInTree). w.tasks) c.self.view_is) (in_range_in _ c.self.invariant.store.runnable)
