use Rattle.std.proofs.Common.{◌≤◌, ◌-◌, length}
use Rattle.eevdf_closed_loop.proofs.opening.no_programs.Given as goal

abbrev pub invariant-loop-alloc : goal.invariant-loop-alloc
invariant-loop-alloc l = length l.programs.items ≤ l.cpus

abbrev pub decreases-loop-alloc : goal.decreases-loop-alloc
decreases-loop-alloc l = l.cpus - length l.programs.items
