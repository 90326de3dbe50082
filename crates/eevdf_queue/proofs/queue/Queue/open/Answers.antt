use Rattle.std.proofs.Common.{refl, sym, ap, ◌∙◌}
use Rattle.std.specs.FinMap.{len, len-empty}
use Rattle.std.specs.Ordering.{nat_cmp}
use Rattle.eevdf_queue.specs.State.{Sleeper, TasksInTree}
use Rattle.eevdf_queue.proofs.{DueTasks.due_in_none, Sound.sound_open}
use Rattle.eevdf_queue.proofs.queue.Queue.open.Goals as goal

pub invariant_of-result : goal.invariant_of-result
invariant_of-result c = (
  sound_open _ _ _ (ap (λ (w : TasksInTree). w.tasks) c.new.ensures) c.new-2.ensures.tasks refl,
  sym (ap len c.new-2.ensures.tasks ∙ len-empty nat_cmp Sleeper),
  refl,
  due_in_none _ (ap (λ (w : TasksInTree). w.tasks) c.new.ensures),
)
