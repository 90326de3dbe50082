use Rattle.std.proofs.Common.{◌≡◌}
use Rattle.eevdf_fleet.specs.Fleets.{seats_in}
use Rattle.eevdf_fleet.proofs.seat.seats_of.Given as goal

abbrev pub invariant-loop-own : goal.invariant-loop-own
invariant-loop-own g l = l.seats.items ≡ seats_in l.yielded
