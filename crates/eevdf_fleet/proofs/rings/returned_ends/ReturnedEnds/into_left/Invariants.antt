use Rattle.std.proofs.Common.{map}
use Rattle.eevdf_fleet.specs.{ReturnedEnds.EmptiedBelow, RingEnds.slots_for, Rings.posted_by}
use Rattle.eevdf_fleet.proofs.rings.returned_ends.ReturnedEnds.into_left.Given as goal

abbrev pub invariant-loop-place : goal.invariant-loop-place
invariant-loop-place g l =
    EmptiedBelow (slots_for g.N.Names.kit.rings.capacity) l.fn.self (record { cpus = l.cpus; posts = map posted_by l.producers.items; takes = l.consumers.items }) l.place l.left.items
