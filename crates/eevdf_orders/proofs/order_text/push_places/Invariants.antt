use Rattle.std.proofs.Common.{◌≡◌, ◌++◌, drop}
use Rattle.eevdf_orders.specs.OrderText.{places_text}
use Rattle.eevdf_orders.proofs.order_text.push_places.Given as goal

abbrev pub invariant-loop-at : goal.invariant-loop-at
invariant-loop-at l = l.initial.text.items ++ places_text 0 l.order ≡ l.text.items ++ places_text l.at (drop l.at l.order)
