use Rattle.std.proofs.Common.{ℕ, ◌-◌, List, length, arith, sym, ap, subst, ◌≡◌, ◌++◌, ◌∷◌, []}
use Rattle.eevdf_steps.specs.Plan.{plan_of}
use Rattle.eevdf_orders.proofs.ChosenPlaces.{IsChoosing, choosing_first, choosing_more}
use Rattle.eevdf_orders.proofs.PlacedOrders.{IsPlaced, below_count, nobody_unfinished, one_place_more, placed_first, placed_more, placed_whole, pushed, somebody_unfinished}
use Rattle.eevdf_orders.proofs.StepsLeft.{all_faulty}
use Rattle.eevdf_orders.proofs.order_making.played_order.Goals as goal

pub loop-place-init : goal.loop-place-init
loop-place-init c = record {
  placed =
      subst (λ (xs : List ℕ). IsPlaced (plan_of c.args.setup.now) c.args.player.now xs) (sym c.new-order.ensures.items)
      (placed_first c.args.setup.now c.args.player.now c.requires);
  choosing =
      subst (λ (xs : List ℕ). IsChoosing (plan_of c.args.setup.now) c.args.choice c.args.choice xs (c.cpus-count.result - 1)) (sym c.new-order.ensures.items)
      (choosing_first (plan_of c.args.setup.now) c.args.choice c.cpus-count.result c.cpus-count.ensures.cpus);
  places = ap (λ (xs : List ℕ). length xs) c.new-order.ensures.items;
  last = omega (arith, c.cpus-count.ensures.some);
}

pub returns-then-is_none-clause-faultless : goal.returns-then-is_none-clause-faultless
returns-then-is_none-clause-faultless c =
    placed_whole (plan_of c.args.setup.now) c.loop-place.player c.loop-place.order.items c.loop-place.invariant.placed
    (omega (arith, c.loop-place.invariant.places, c.loop-place-test.true))
    (nobody_unfinished c.ready.result _ c.is_none.result c.is_none.ensures c.if-is_none.true c.ready.ensures.none)

pub loop-place-preserved : goal.loop-place-preserved
loop-place-preserved c =
    let items : c.push.new.self.items ≡ c.loop-place.order.items ++ c.step_from-last.result ∷ []
    = pushed c.push.result c.loop-place.order.items c.push.new.self.items c.step_from-last.result c.push.ensures.items c.if-is_err.ensures.value in
    record {
      placed =
          subst (λ (xs : List ℕ). IsPlaced (plan_of c.args.setup.now) c.step_from-last.new.player xs) (sym items)
          (placed_more (plan_of c.args.setup.now) c.loop-place.player c.step_from-last.new.player c.loop-place.order.items c.first.result c.step_from-last.result
          c.loop-place.invariant.placed c.step_from-last.ensures);
      choosing =
          subst (λ (xs : List ℕ). IsChoosing (plan_of c.args.setup.now) c.args.choice c.first.new.self xs c.step_from-last.result) (sym items)
          (choosing_more (plan_of c.args.setup.now) c.args.choice c.loop-place.choice c.first.new.self c.loop-place.order.items c.loop-place.last c.cpus-count.result
          c.first.result c.step_from-last.result c.loop-place.player c.step_from-last.new.player c.loop-place.invariant.choosing c.loop-place.invariant.placed
          c.step_from-last.ensures c.first.ensures.first c.first.ensures.next c.cpus-count.ensures.cpus);
      places = one_place_more c.loop-place.order.items c.push.new.self.items c.step_from-last.result c.loop-place._place items c.loop-place.invariant.places;
      last =
          below_count (plan_of c.args.setup.now) c.loop-place.player c.loop-place.order.items c.step_from-last.result c.cpus-count.result
          c.loop-place.invariant.placed c.step_from-last.ensures.next.below c.cpus-count.ensures.cpus;
    }

pub returns-in-None-clause-faultless : goal.returns-in-None-clause-faultless
returns-in-None-clause-faultless c =
    placed_whole (plan_of c.args.setup.now) c.loop-place.player c.loop-place.order.items c.loop-place.invariant.placed
    (omega (arith, c.loop-place.invariant.places, c.loop-place.auto._place-end))
    (sym c.in-None.ensures.none)

pub returns-in-Some-clause-too_long : goal.returns-in-Some-clause-too_long
returns-in-Some-clause-too_long c e other =
    all_faulty (plan_of c.args.setup.now) c.loop-place.player c.loop-place.order.items c.loop-place.invariant.placed
    (omega (arith, c.loop-place.invariant.places, c.loop-place.auto._place-end, c.loop-place-test.false))
    (somebody_unfinished _ c.in-Some.ensures.none) other
