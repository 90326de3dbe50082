use Rattle.std.proofs.Common.{ap, ◌∙◌, arith}
use Rattle.std.specs.FinMap.{get}
use Rattle.eevdf_queue.specs.State.{View, TasksAsleep}
use Rattle.eevdf_queue.proofs.{AsleepCounts.few_asleep, AsleepCounts.one_more, Sound.sound_sleep}
use Rattle.eevdf_queue.proofs.queue.Queue.put_asleep.Goals as goal

pub overflow_add-self : goal.overflow_add-self
overflow_add-self c = omega (arith, c.self.invariant.1, few_asleep c.self.inside.asleep.tasks c.keeps.ensures.limited)

pub invariant_of-self : goal.invariant_of-self
invariant_of-self c = (
  sound_sleep _ _ _ _ _ _ _ (ap (λ (w : TasksAsleep). w.tasks) c.add.ensures)
      (ap (λ (w : View). get w.state.runnable c.args.parcel.task) c.self.view_is ∙ c.requires.not_runnable)
      c.self.invariant.0,
  one_more _ _ _ _ c.self.invariant.1 _ (ap (λ (w : TasksAsleep). w.tasks) c.add.ensures)
      (ap (λ (w : View). get w.state.asleep c.args.parcel.task) c.self.view_is ∙ c.requires.not_asleep),
  c.self.invariant.2,
  c.self.invariant.3,
)
