use Rattle.std.proofs.Common.{◌≡◌, drop, map}
use Rattle.eevdf_ops.specs.Homes.{homes_in}
use Rattle.eevdf_ops.specs.Faults.{programs_fault}
use Rattle.eevdf_ops.proofs.setup_check.programs_fault.Given as goal

abbrev pub invariant-loop-cpu : goal.invariant-loop-cpu
invariant-loop-cpu l =
    programs_fault (homes_in l.homes) l.cpus 0 (map (λ p. p.items) l.programs) ≡ programs_fault (homes_in l.homes) l.cpus l.cpu (map (λ p. p.items) (drop l.cpu l.programs))
