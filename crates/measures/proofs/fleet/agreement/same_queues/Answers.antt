use Rattle.std.proofs.Common.{sym, ◌∙◌, ap, subst, refl, arith}
use Rattle.std.specs.Bool.{IsTrue}
use Rattle.eevdf_ops.specs.Machine.{Machine, queue_at}
use Rattle.eevdf_ops.proofs.Machines.{queue_state}
use Rattle.measures.proofs.fleet.agreement.same_queues.Goals as goal

pub returns-then-not-same_queue : goal.returns-then-not-same_queue
returns-then-not-same_queue c same =
    let cpu = c.loop-cpu.cpu in
    let one = queue_state c.args.one.now.queues cpu cpu c.queue.result.now c.queue.ensures refl (omega arith) in
    let other = queue_state c.args.other.now.queues cpu cpu c.queue-in-loop-cpu.result.now c.queue-in-loop-cpu.ensures refl (omega arith) in
    subst IsTrue c.if-not-same_queue.true (c.same_queue.ensures (one ∙ ap (λ (m : Machine). queue_at m cpu) same ∙ sym other))
