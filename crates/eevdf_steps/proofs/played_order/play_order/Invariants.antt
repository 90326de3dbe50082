use Rattle.std.proofs.Common.{◌≡◌, drop}
use Rattle.eevdf_steps.specs.{Orders.order_fault, MicroState.micro_after}
use Rattle.eevdf_steps.proofs.PlayedOrders.{deeds_with}
use Rattle.eevdf_steps.proofs.played_order.play_order.Given as goal

abbrev pub invariant-loop-at : goal.invariant-loop-at
invariant-loop-at l = record {
  plan : l.player.plan ≡ l.initial.player.plan;
  fault : order_fault l.initial.player.plan l.initial.player.state.progress.counters 0 l.order
      ≡ order_fault l.player.plan l.player.state.progress.counters l.at (drop l.at l.order);
  state : micro_after l.initial.player.plan l.initial.player.state l.order ≡ micro_after l.player.plan l.player.state (drop l.at l.order);
  commits : deeds_with l.player (drop l.at l.order) ≡ deeds_with l.initial.player l.order;
}
