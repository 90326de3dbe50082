use Rattle.std.proofs.Common.{◌≡◌, ◌≤◌, vec_capacity, vec_len}
use Rattle.eevdf_fleet.specs.Fleets.{seats_in}
use Rattle.eevdf_fleet.proofs.seat.parts_in.Given as goal

abbrev pub invariant-loop-seat : goal.invariant-loop-seat
invariant-loop-seat g l = record {
  same : seats_in l.room.items ≡ l.yielded;
  room : vec_len l.fn.seats ≤ vec_capacity l.room;
}
