use Rattle.std.proofs.Common.{◌≡◌, map}
use Rattle.eevdf_fleet.specs.Endless.{seat_of_parts}
use Rattle.eevdf_fleet.proofs.endless.seat.seats_of.Given as goal

abbrev pub invariant-loop-own : goal.invariant-loop-own
invariant-loop-own g l = l.seats.items ≡ map seat_of_parts l.yielded
