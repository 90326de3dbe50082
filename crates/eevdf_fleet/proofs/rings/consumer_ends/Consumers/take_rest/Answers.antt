use Rattle.eevdf_fleet.proofs.MarkedItems.{grows-marked}
use Rattle.eevdf_fleet.proofs.RingEnds.{consumers-set, pair-at, capacity-at, left-at, takes-more, posting-looked, posts-looked}
use Rattle.eevdf_fleet.proofs.rings.consumer_ends.Consumers.take_rest.Goals as goal

pub pop_rest-requires-clause-pair : goal.pop_rest-requires-clause-pair
pop_rest-requires-clause-pair g c =
    pair-at _ _ c.producers.invariant.0 c.self.invariant
    (rw (← c.self.view_is, ← c.producers.view_is) at c.requires.home) c.index_mut-2.ensures.value
    (rw (← c.self.view_is, ← c.producers.view_is) at c.requires.sender) c.index_mut.ensures.value

pub pop_rest-requires-clause-room : goal.pop_rest-requires-clause-room
pop_rest-requires-clause-room g c =
    rw (capacity-at _ _ c.self.invariant (rw (← c.self.view_is, ← c.producers.view_is) at c.requires.sender) c.index_mut.ensures.value) c.requires.room

pub invariant_of-self : goal.invariant_of-self
invariant_of-self g c =
    consumers-set _ _ _ c.self.invariant c.index_mut.ensures.value c.pop_rest.ensures.ring (λ marked. grows-marked marked c.pop_rest.ensures.received)

pub invariant_of-producers : goal.invariant_of-producers
invariant_of-producers g c = posting-looked g.N.Names.kit _ _ _ _ _ _ _ c.producers.invariant c.index_mut-2.ensures.value c.pop_rest.ensures.producer

pub returns-clause-taken : goal.returns-clause-taken
returns-clause-taken g c =
    rw (← c.self.view_is, ← c.producers.view_is)
    (takes-more _ _ _ _ _ _ c.self.invariant (rw (← c.self.view_is, ← c.producers.view_is) at c.requires.sender) c.index_mut.ensures.value c.pop_rest.ensures.received)

pub returns-clause-left : goal.returns-clause-left
returns-clause-left g c =
    rw (← c.self.view_is, ← c.producers.view_is) (
    left-at c.producers.inside.capacity _ _ c.producers.invariant.0 c.self.invariant
    (rw (← c.self.view_is, ← c.producers.view_is) at c.requires.home) c.index_mut-2.ensures.value
    (rw (← c.self.view_is, ← c.producers.view_is) at c.requires.sender) c.index_mut.ensures.value _ c.pop_rest.ensures.left
    )

pub returns-clause-producers : goal.returns-clause-producers
returns-clause-producers g c =
    rw (← c.self.view_is, ← c.producers.view_is) (
    posts-looked _ _ _ _ _ _ (rw (← c.self.view_is, ← c.producers.view_is) at c.requires.home) c.index_mut-2.ensures.value
    c.pop_rest.ensures.producer.1 c.pop_rest.ensures.producer.2
    )
