use Rattle.std.proofs.Common.{arith}
use Rattle.eevdf_free_tasks.proofs.Numbers.{top-is-free, within-slots, same-free}
use Rattle.eevdf_free_tasks.proofs.free_tasks.FreeTasks.take.Goals as goal

pub index_mut-requires : goal.index_mut-requires
index_mut-requires c =
    omega (arith, c.index.ensures.number, c.self.inside.slots.ok.0, within-slots c.self.inside.slots.items c.in_ok-task.task (top-is-free c.pop_front.new.self.items c.in_ok-task.task c.self.invariant c.in_ok-task.ensures.items))

pub invariant_of-self : goal.invariant_of-self
invariant_of-self c = same-free c.self.invariant c.in_err-task.ensures.items c.in_err-task.ensures.capacity
