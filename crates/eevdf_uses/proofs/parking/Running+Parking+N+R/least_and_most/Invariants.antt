use Rattle.std.proofs.Common.{◌≡◌}
use Rattle.eevdf_uses.proofs.parking.Running+Parking+N+R.least_and_most.Given as goal

abbrev pub invariant-loop-number : goal.invariant-loop-number
invariant-loop-number g l = l.seat.cpu ≡ l.initial.seat.cpu
