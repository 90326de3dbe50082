use Rattle.std.proofs.Common.{◌∙◌, arith}
use Rattle.eevdf_fleet.proofs.RingOpenings.{length-lists, row-pushed}
use Rattle.eevdf_fleet.proofs.rings.opened_rings.open_row.Goals as goal

pub loop-home-preserved : goal.loop-home-preserved
loop-home-preserved c =
    row-pushed _ _ _ _ _ _ c.loop-home.invariant (omega (arith, length-lists c.args.columns.now.items)) c.in_ok-push.ensures.items
    (record { capacity_is = c.in_ok-producer.ensures.slots ∙ c.slots_for-slots.ensures; marked = c.in_ok-producer.ensures.sent; none = c.in_ok-producer.ensures.posted; free_is = c.in_ok-producer.ensures.free ∙ c.slots_for-slots.ensures })
    (record {
      pops = record {
        pair = c.in_ok-producer.ensures.pair;
        capacity_is = c.in_ok-producer.ensures.capacity ∙ c.slots_for-slots.ensures;
        marked = c.in_ok-producer.ensures.received;
      };
      none = c.in_ok-producer.ensures.taken;
    })
    c.index_mut.ensures.value c.in_ok-push-2.ensures.items
