use Rattle.std.proofs.Common.{◌≡◌, drop}
use Rattle.eevdf_ops.specs.Faults.{tasks_fault}
use Rattle.eevdf_ops.proofs.setup_check.tasks_fault.Given as goal

abbrev pub invariant-loop-place : goal.invariant-loop-place
invariant-loop-place l = tasks_fault l.cpus 0 l.tasks ≡ tasks_fault l.cpus l.place (drop l.place l.tasks)
