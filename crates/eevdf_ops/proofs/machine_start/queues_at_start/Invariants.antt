use Rattle.std.proofs.Common.{◌≡◌, ◌≤◌, replicate, take}
use Rattle.std.specs.Prelude.{vec_capacity}
use Rattle.eevdf_queue.specs.State.{empty_state}
use Rattle.eevdf_ops.specs.{Machine.begin_at_homes, Outcome.machine_of}
use Rattle.eevdf_ops.proofs.machine_start.queues_at_start.Given as goal

abbrev pub invariant-loop-cpu : goal.invariant-loop-cpu
invariant-loop-cpu l =
    (machine_of l.queues.items ≡ take l.cpu (begin_at_homes 0 l.tasks (replicate l.cpus empty_state))) × (l.cpus ≤ vec_capacity l.queues)
