use Rattle.std.proofs.Common.{ap, ◌∙◌, arith}
use Rattle.std.specs.Prelude.{Option}
use Rattle.eevdf_queue.specs.State.{State, Contents}
use Rattle.eevdf_ops.specs.{Halves.taken_out, Parts.after_leaving}
use Rattle.eevdf_steps.proofs.WorkQueues.{read-queue, written-queue}
use Rattle.eevdf_steps.proofs.work.Work.take_out.Goals as goal

pub returns : goal.returns
returns c =
    let read = read-queue c.self.inside.queues.items c.self.view_is c.requires.queue c.index.ensures.number c.index_mut.ensures.value in
    let left = written-queue c.self.inside.queues.items c.self.view_is c.requires.queue c.index.ensures.number c.index_mut.ensures.value c.take-answer.new.giver
    (λ (q : State). after_leaving (taken_out c.args.taking q) q)
    (c.take-answer.ensures.after ∙ ap (λ (o : Option Contents). after_leaving o c.index_mut.result.now.state) c.take-answer.ensures.parcel) in
    grind arith
