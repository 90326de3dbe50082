use Rattle.std.proofs.Common.{sym, ◌∙◌}
use Rattle.eevdf_fleet.proofs.MarkedItems.{same-marked}
use Rattle.eevdf_fleet.proofs.RingEnds.{consumers-set, free-after, free-beside, pair-at, own-sender, posting-looked, posts-looked, takes-same}
use Rattle.eevdf_fleet.proofs.rings.consumer_ends.Consumers.free_own.Goals as goal

pub free_beside-requires : goal.free_beside-requires
free_beside-requires g c =
    let own = own-sender _ _ _ _ _ _ _ c.producers.view_is c.self.view_is c.requires.own in
    pair-at _ _ (rw own at c.producers.invariant.0) c.self.invariant
    (rw (← c.self.view_is, ← c.producers.view_is) at c.requires.home) c.index_mut.ensures.value
    (rw (← c.self.view_is) at c.requires.sender) c.index_mut-2.ensures.value

pub invariant_of-self : goal.invariant_of-self
invariant_of-self g c =
    consumers-set _ _ _ c.self.invariant c.index_mut-2.ensures.value c.free_beside.ensures.consumer.0 (λ marked. same-marked marked c.free_beside.ensures.consumer.1)

pub invariant_of-producers : goal.invariant_of-producers
invariant_of-producers g c = posting-looked g.N.Names.kit _ _ _ _ _ _ _ c.producers.invariant c.index_mut.ensures.value c.free_beside.ensures.looked

pub returns-clause-takes : goal.returns-clause-takes
returns-clause-takes g c = rw (← c.self.view_is) (takes-same _ _ _ _ _ c.index_mut-2.ensures.value c.free_beside.ensures.consumer.1)

pub returns-clause-producers : goal.returns-clause-producers
returns-clause-producers g c =
    rw (← c.self.view_is, ← c.producers.view_is) (
    posts-looked _ _ _ _ _ _ (rw (← c.self.view_is, ← c.producers.view_is) at c.requires.home) c.index_mut.ensures.value
    c.free_beside.ensures.looked.1 c.free_beside.ensures.looked.2
    )

pub returns-clause-free : goal.returns-clause-free
returns-clause-free g c =
    rw (← c.self.view_is) (c.free_beside.ensures.free
    ∙ sym (free-after c.producers.inside.capacity c.producers.inside.sender c.producers.inside.ends.items c.self.inside.home _ c.free_beside.new.producer
    (rw (← c.self.view_is, ← c.producers.view_is) at c.requires.home) c.index_mut.ensures.value))

pub returns-clause-all : goal.returns-clause-all
returns-clause-all g c =
    let own = own-sender _ _ _ _ _ _ _ c.producers.view_is c.self.view_is c.requires.own in
    rw (← c.self.view_is, ← c.producers.view_is) (
    free-beside c.producers.inside.capacity _ _ (rw own at c.producers.invariant.0) c.self.invariant
    (rw (← c.self.view_is, ← c.producers.view_is) at c.requires.home) c.index_mut.ensures.value
    (rw (← c.self.view_is) at c.requires.sender) c.index_mut-2.ensures.value
    c.free_beside.new.producer c.free_beside.result (rw c.producers.invariant.1 at c.free_beside.ensures.free) c.free_beside.ensures.all c.free_beside.ensures.fewer
    )
