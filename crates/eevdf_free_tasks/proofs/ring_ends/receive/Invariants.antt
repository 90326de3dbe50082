use Rattle.std.proofs.Common.{◌≡◌, ◌+◌, length}
use Rattle.rtrb.specs.Ring.{received, known_items, SameConsumer}
use Rattle.eevdf_free_tasks.specs.Parts.{HasCome}
use Rattle.eevdf_free_tasks.proofs.ring_ends.receive.Given as goal

abbrev pub invariant-loop : goal.invariant-loop
invariant-loop l = record {
  ring : SameConsumer l.initial.consumer l.consumer;
  come : HasCome (received l.initial.consumer) (received l.consumer) l.initial.own l.own;
  rest : length (known_items l.consumer) + l.counter ≡ length (known_items l.initial.consumer);
}
