use Rattle.std.proofs.Common.{◌∙◌, arith}
use Rattle.eevdf_queue.specs.State.{State}
use Rattle.eevdf_ops.specs.Halves.{after_putting}
use Rattle.eevdf_steps.proofs.WorkQueues.{written-queue}
use Rattle.eevdf_steps.proofs.work.Work.put_in.Goals as goal

pub returns : goal.returns
returns c =
    let put = written-queue c.self.inside.queues.items (c.self.view_is ∙ c.let_go-parcel.ensures.after) c.requires.queue c.index.ensures.number c.index_mut.ensures.value c.put.new.taker
    (λ (q : State). after_putting c.args.putting c.let_go-parcel.result q) c.put.ensures in
    grind arith
