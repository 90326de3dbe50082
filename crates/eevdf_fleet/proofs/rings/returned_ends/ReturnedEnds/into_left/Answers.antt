use Rattle.std.proofs.Common.{◌/◌, ap, arith}
use Rattle.eevdf_fleet.specs.Rings.{Returned, posted_by}
use Rattle.eevdf_fleet.proofs.RingPlaces.{read-given}
use Rattle.eevdf_fleet.proofs.RingRests.{home-within, sender-within, reads-sender, reads-home, reads-to_all, reads-from_all, empty-at, emptied-given, all-left}
use Rattle.eevdf_fleet.proofs.rings.returned_ends.ReturnedEnds.into_left.Goals as goal

pub take_rest-requires-clause-home : goal.take_rest-requires-clause-home
take_rest-requires-clause-home g c =
    let home = home-within c.self.inside.cpus c.loop-place.place (omega arith) in
    let sender = sender-within c.self.inside.cpus c.loop-place.place (omega arith) in
    omega (arith, reads-home _ c.loop-place.invariant.ends _ _ home c.index_mut.ensures.value, reads-to_all _ c.loop-place.invariant.ends _ _ sender (read-given posted_by c.loop-place.producers.items (c.loop-place.place / c.self.inside.cpus) c.index_mut-in-loop-place.result.now c.index_mut-in-loop-place.ensures.value))

pub take_rest-requires-clause-sender : goal.take_rest-requires-clause-sender
take_rest-requires-clause-sender g c =
    let home = home-within c.self.inside.cpus c.loop-place.place (omega arith) in
    let sender = sender-within c.self.inside.cpus c.loop-place.place (omega arith) in
    omega (arith, reads-from_all _ c.loop-place.invariant.ends _ _ home c.index_mut.ensures.value, reads-sender _ c.loop-place.invariant.ends _ _ sender (read-given posted_by c.loop-place.producers.items (c.loop-place.place / c.self.inside.cpus) c.index_mut-in-loop-place.result.now c.index_mut-in-loop-place.ensures.value))

pub take_rest-requires-clause-empty : goal.take_rest-requires-clause-empty
take_rest-requires-clause-empty g c =
    (empty-at _ c.loop-place.invariant (omega arith) c.index_mut-in-loop-place-2.ensures.value).empty

pub take_rest-requires-clause-room : goal.take_rest-requires-clause-room
take_rest-requires-clause-room g c =
    (empty-at _ c.loop-place.invariant (omega arith) c.index_mut-in-loop-place-2.ensures.value).room

pub loop-place-preserved : goal.loop-place-preserved
loop-place-preserved g c =
    emptied-given _ _ _ _ _ _ _ _ c.loop-place.invariant (ap (λ (r : Returned). r.cpus) c.self.view_is) (omega arith) c.index_mut.ensures.value c.index_mut-in-loop-place.ensures.value
    c.take_rest.ensures.taken c.take_rest.ensures.left (ap posted_by c.take_rest.ensures.producers.posts)

pub returns : goal.returns
returns g c = all-left c.loop-place.invariant (ap (λ (r : Returned). r.cpus) c.self.view_is) (omega arith)
