use Rattle.std.proofs.Common.{◌≡◌, ◌∙◌, ◌+◌, ℕ, List, refl, ap, subst, length, arith}
use Rattle.rtrb.specs.Ring.{known_items, received, sent}
use Rattle.eevdf_fleet.specs.declared.rings.request.Request.{Request}
use Rattle.eevdf_fleet.specs.Requests.{Grows}
use Rattle.eevdf_fleet.proofs.MarkedItems.{all-known, grows-more, grows-none, moved-on}
use Rattle.eevdf_fleet.proofs.rings.ring_ends.pop_rest.Goals as goal

pub pop_known-requires : goal.pop_known-requires
pop_known-requires c = omega (arith, c.loop-test.true, c.loop.invariant.rest, c.slots_beside-count.ensures.value)

pub loop-init : goal.loop-init
loop-init c = record {
  ring = ((refl, refl, refl, refl), refl);
  popped = grows-none _ _ c.requires.empty;
  all = refl;
  rest = omega arith;
  count = omega (arith, c.args.left.now.ok.0, ap length c.requires.empty);
  room = refl;
}

pub loop-preserved : goal.loop-preserved
loop-preserved c =
    let ring = c.pop_known.ensures.ring in let before = c.loop.invariant.ring in record {
      ring = ((ring.0.0 ∙ before.0.0, ring.0.1 ∙ before.0.1, ring.0.2 ∙ before.0.2, ring.0.3 ∙ before.0.3), ring.1 ∙ before.1);
      popped = grows-more _ c.loop.invariant.popped c.pop_known.ensures.received.0 c.push_reserved.ensures.items;
      all = moved-on _ _ _ _ _ c.pop_known.ensures.received.0 c.pop_known.ensures.received.1 ∙ c.loop.invariant.all;
      rest = omega (arith, c.loop.invariant.rest, ap length c.pop_known.ensures.received.1);
      count = c.push_reserved.ensures.len ∙ ap (λ (n : ℕ). n + 1) c.loop.invariant.count;
      room = c.push_reserved.ensures.capacity ∙ c.loop.invariant.room;
    }

pub returns-clause-received : goal.returns-clause-received
returns-clause-received c =
    subst (λ (l : List Request). Grows l (received c.loop.consumer) c.loop.left.items) c.slots_beside-count.ensures.looked.1 c.loop.invariant.popped

pub returns-clause-left : goal.returns-clause-left
returns-clause-left c =
    let none : length (known_items c.loop.consumer) ≡ 0 = omega (arith, c.loop-test.false, c.loop.auto.counter-end, c.loop.invariant.rest, c.slots_beside-count.ensures.value) in
    let all : received c.loop.consumer ≡ sent c.args.producer.now
    = all-known (received c.loop.consumer) (known_items c.loop.consumer) none ∙ c.loop.invariant.all ∙ c.slots_beside-count.ensures.fifo ∙ c.slots_beside-count.ensures.producer.1 in
    subst (λ (l : List Request). Grows l (sent c.args.producer.now) c.loop.left.items) c.slots_beside-count.ensures.looked.1
    (subst (λ (l : List Request). Grows (received c.slots_beside-count.new.self) l c.loop.left.items) all c.loop.invariant.popped)
