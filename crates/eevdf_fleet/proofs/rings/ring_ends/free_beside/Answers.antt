use Rattle.std.proofs.Common.{length, ap, arith}
use Rattle.std.proofs.lemmas.List.{length-append}
use Rattle.rtrb.specs.Ring.{known_items, received}
use Rattle.eevdf_fleet.proofs.rings.ring_ends.free_beside.Goals as goal

pub returns-clause-all : goal.returns-clause-all
returns-clause-all c =
    omega (
      arith,
      c.slots_beside-2.ensures.value,
      c.slots_beside-2.ensures.all_free,
      ap length c.slots_beside-2.ensures.looked.1,
      c.slots_beside-2.ensures.looked.0.1,
      ap length c.slots_beside-2.ensures.consumer.1,
      ap length c.slots_beside.ensures.producer.1,
      c.slots_beside.ensures.producer.0.1,
      ap length c.slots_beside.ensures.looked.1,
    )

pub returns-clause-fewer : goal.returns-clause-fewer
returns-clause-fewer c =
    omega (arith, ap length c.slots_beside.ensures.fifo, length-append (received c.slots_beside.new.self) (known_items c.slots_beside.new.self), ap length c.slots_beside.ensures.looked.1, ap length c.slots_beside.ensures.producer.1)
