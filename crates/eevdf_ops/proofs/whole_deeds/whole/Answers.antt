use Rattle.std.proofs.Common.{length, sym, ap, ◌∙◌, arith}
use Rattle.eevdf_queue.specs.State.{State}
use Rattle.eevdf_ops.specs.{declared.deeds.Answer.Answer, Machine.Machine, Outcome.machine_of, LocalActs.local_done, Parts.decider}
use Rattle.eevdf_ops.proofs.{Machines.length-machine_of, Machines.of_queue, Machines.queue_written, MachinePlaces.none-twice}
use Rattle.eevdf_ops.proofs.DeedNames.{PullNames, decider_below, transfer_names}
use Rattle.eevdf_ops.proofs.{PickDescents.depth_of_deed, WholeActs.whole-by}
use Rattle.eevdf_ops.proofs.whole_deeds.whole.Goals as goal

pub across-requires-clause-once : goal.across-requires-clause-once
across-requires-clause-once c =
    let many = length-machine_of c.args.queues.now in
    let named : PullNames (length c.args.queues.now) (decider c.args.deed) c.in-Transfer.other =
    transfer_names (length c.args.queues.now) c.args.homes.now c.args.deed c.in-Transfer.other c.in-Transfer.transfer c.requires.allowed c.requires.cpus (sym c.parted-cpu.ensures.act ∙ c.in-Transfer.is) in
    none-twice c.args.homes.now (machine_of c.args.queues.now) c.parted-cpu.result.0 c.in-Transfer.other c.requires.placed (λ e. named.apart (sym c.parted-cpu.ensures.cpu ∙ e))
    (omega (arith, many, named.puller, c.parted-cpu.ensures.cpu)) (omega (arith, many, named.from))

pub returns-in-Local-clause-answer : goal.returns-in-Local-clause-answer
returns-in-Local-clause-answer c =
    of_queue c.args.queues.now c.parted-cpu.result.0 c.index.result c.index-queues-index.result (λ (q : State). (local_done c.in-Local.act q).0) c.apply.result c.index.ensures.number (omega (arith, c.parted-cpu.ensures.cpu, decider_below (length c.args.queues.now) c.args.homes.now c.args.deed c.requires.allowed))
    c.apply.ensures.answer
    ∙ ap (λ (r : Answer × Machine). r.0)
    (sym (whole-by c.args.homes.now c.args.deed (machine_of c.args.queues.now) c.parted-cpu.result.0 _ (sym c.parted-cpu.ensures.act ∙ c.in-Local.is) (sym c.parted-cpu.ensures.cpu)))

pub returns-in-Local-clause-machine : goal.returns-in-Local-clause-machine
returns-in-Local-clause-machine c =
    queue_written c.args.queues.now c.parted-cpu.result.0 c.index.result c.index-queues-index.result c.apply.new.queue (λ (q : State). (local_done c.in-Local.act q).1) c.index.ensures.number (omega (arith, c.parted-cpu.ensures.cpu, decider_below (length c.args.queues.now) c.args.homes.now c.args.deed c.requires.allowed))
    c.apply.ensures.after
    ∙ ap (λ (r : Answer × Machine). r.1)
    (sym (whole-by c.args.homes.now c.args.deed (machine_of c.args.queues.now) c.parted-cpu.result.0 _ (sym c.parted-cpu.ensures.act ∙ c.in-Local.is) (sym c.parted-cpu.ensures.cpu)))

pub returns-in-Local-clause-depth : goal.returns-in-Local-clause-depth
returns-in-Local-clause-depth c =
    depth_of_deed c.args.homes.now c.args.deed c.in-Local.act c.args.queues.now c.parted-cpu.result.0 c.index.result c.index-queues-index.result c.apply.new.queue
    (sym c.parted-cpu.ensures.act ∙ c.in-Local.is) (sym c.parted-cpu.ensures.cpu) c.index.ensures.number
    (omega (arith, c.index.ensures.number, c.parted-cpu.ensures.cpu, decider_below (length c.args.queues.now) c.args.homes.now c.args.deed c.requires.allowed)) c.apply.ensures.depth

pub returns-in-Transfer-clause-answer : goal.returns-in-Transfer-clause-answer
returns-in-Transfer-clause-answer c =
    c.across.ensures.answer
    ∙ ap (λ (r : Answer × Machine). r.0)
    (sym (whole-by c.args.homes.now c.args.deed (machine_of c.args.queues.now) c.parted-cpu.result.0 _ (sym c.parted-cpu.ensures.act ∙ c.in-Transfer.is) (sym c.parted-cpu.ensures.cpu)))

pub returns-in-Transfer-clause-machine : goal.returns-in-Transfer-clause-machine
returns-in-Transfer-clause-machine c =
    c.across.ensures.machine
    ∙ ap (λ (r : Answer × Machine). r.1)
    (sym (whole-by c.args.homes.now c.args.deed (machine_of c.args.queues.now) c.parted-cpu.result.0 _ (sym c.parted-cpu.ensures.act ∙ c.in-Transfer.is) (sym c.parted-cpu.ensures.cpu)))
