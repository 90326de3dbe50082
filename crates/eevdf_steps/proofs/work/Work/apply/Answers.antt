use Rattle.eevdf_queue.specs.State.{State}
use Rattle.eevdf_ops.specs.LocalActs.{local_done}
use Rattle.eevdf_steps.proofs.WorkQueues.{written-queue}
use Rattle.eevdf_steps.proofs.work.Work.apply.Goals as goal

pub returns-clause-after : goal.returns-clause-after
returns-clause-after c =
    written-queue c.self.inside.queues.items c.self.view_is c.requires c.index.ensures.number c.index_mut.ensures.value c.apply.new.queue
    (λ (q : State). (local_done c.args.act q).1) c.apply.ensures.after
