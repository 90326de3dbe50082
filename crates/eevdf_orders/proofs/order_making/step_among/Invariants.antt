use Rattle.std.proofs.Common.{◌≡◌, ◌-◌}
use Rattle.eevdf_steps.specs.Counters.{least, may_step}
use Rattle.eevdf_orders.proofs.order_making.step_among.Given as goal

abbrev pub invariant-loop-caller : goal.invariant-loop-caller
invariant-loop-caller l = record {
  same : l.player ≡ l.initial.player;
  least : least (may_step l.player.plan l.player.state.progress.counters) l.from (l.end - l.from) ≡ least (may_step l.player.plan l.player.state.progress.counters) l.caller (l.end - l.caller);
}
