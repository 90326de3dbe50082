use Rattle.std.proofs.Common.{◌≡◌, ◌<◌, length}
use Rattle.eevdf_steps.specs.Plan.{plan_of}
use Rattle.eevdf_orders.proofs.{ChosenPlaces.IsChoosing, PlacedOrders.IsPlaced}
use Rattle.eevdf_orders.proofs.order_making.played_order.Given as goal

abbrev pub invariant-loop-place : goal.invariant-loop-place
invariant-loop-place l = record {
  placed : IsPlaced (plan_of l.setup) l.player l.order.items;
  choosing : IsChoosing (plan_of l.setup) l.initial.choice l.choice l.order.items l.last;
  places : length l.order.items ≡ l._place;
  last : l.last < l.count;
}
