use Rattle.std.proofs.Common.{◌≡◌}
use Rattle.eevdf_ops.proofs.OwnStarts.{begun}
use Rattle.eevdf_ops.proofs.machine_start.fill_queue.Given as goal

abbrev pub invariant-loop-place : goal.invariant-loop-place
invariant-loop-place l = l.queue.state ≡ begun l.cpus l.cpu l.tasks l.place
