use Rattle.std.proofs.Common.{◌≡◌, drop}
use Rattle.eevdf_ops.specs.Homes.{homes_in}
use Rattle.eevdf_ops.specs.Faults.{operations_fault}
use Rattle.eevdf_ops.proofs.setup_check.operations_fault.Given as goal

abbrev pub invariant-loop-at : goal.invariant-loop-at
invariant-loop-at l =
    operations_fault (homes_in l.homes) l.cpus l.cpu 0 l.program ≡ operations_fault (homes_in l.homes) l.cpus l.cpu l.at (drop l.at l.program)
