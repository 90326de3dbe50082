use Rattle.std.proofs.Common.{◌≡◌, ◌≤◌, map, vec_capacity, vec_len}
use Rattle.eevdf_fleet.specs.Endless.{seat_of_parts}
use Rattle.eevdf_fleet.proofs.endless.seat.parts_in.Given as goal

abbrev pub invariant-loop-seat : goal.invariant-loop-seat
invariant-loop-seat g l = record {
  same : map seat_of_parts l.room.items ≡ l.yielded;
  room : vec_len l.fn.seats ≤ vec_capacity l.room;
}
