use Rattle.std.proofs.Common.{◌≡◌, ◌+◌, ◌++◌, length, vec_len, vec_capacity}
use Rattle.rtrb.specs.Ring.{received, known_items, SameConsumer}
use Rattle.eevdf_fleet.specs.Requests.{Grows}
use Rattle.eevdf_fleet.proofs.rings.ring_ends.pop_rest.Given as goal

abbrev pub invariant-loop : goal.invariant-loop
invariant-loop l = record {
  ring : SameConsumer l.initial.consumer l.consumer;
  popped : Grows (received l.initial.consumer) (received l.consumer) l.left.items;
  all : received l.consumer ++ known_items l.consumer ≡ received l.initial.consumer ++ known_items l.initial.consumer;
  rest : length (known_items l.consumer) + l.counter ≡ length (known_items l.initial.consumer);
  count : vec_len l.left ≡ l.counter;
  room : vec_capacity l.left ≡ vec_capacity l.initial.left;
}
