use Rattle.std.proofs.Common.{sym}
use Rattle.eevdf_ops.specs.Setup.{cpus_of}
use Rattle.eevdf_ops.proofs.SoloPlaces.{kept-start}
use Rattle.eevdf_ops.proofs.solo.Solo.open.Goals as goal

pub invariant_of-result : goal.invariant_of-result
invariant_of-result c =
    kept-start (cpus_of c.args.setup.now) c.cpus.result c.task_specs.result.now c.args.setup.now.tasks c.in_ok-homes.homes.items c.in_ok-queues.queues.items
    c.task_specs.ensures.well (sym c.task_specs.ensures.tasks) c.cpus.ensures.cpus c.in_ok-homes.ensures c.in_ok-queues.ensures.start
