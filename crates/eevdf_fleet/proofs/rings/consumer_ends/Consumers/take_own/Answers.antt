use Rattle.std.proofs.Common.{ℕ, length, ap, sym, ◌∙◌}
use Rattle.std.specs.Prelude.{slice_get}
use Rattle.std.proofs.lemmas.Option.{IfSome_then}
use Rattle.eevdf_fleet.specs.{RingEnds.takes, Rings.Posts, Rings.Takes, Rings.posted_to, Rings.taken_from}
use Rattle.eevdf_fleet.proofs.{MarkedItems.popped-marked}
use Rattle.eevdf_fleet.proofs.RingEnds.{consumers-set, followed-taken, oldest-at, pair-at, takes-same, takes-more, own-sender, posting-looked, posts-looked}
use Rattle.eevdf_fleet.proofs.RingPlaces.{IfNone_then}
use Rattle.eevdf_fleet.proofs.rings.consumer_ends.Consumers.take_own.Goals as goal

pub pop_beside-requires : goal.pop_beside-requires
pop_beside-requires g c =
    let own = own-sender _ _ _ _ _ _ _ c.producers.view_is c.self.view_is c.requires.own in
    pair-at _ _ (rw own at c.producers.invariant.0) c.self.invariant
    (rw (← c.self.view_is, ← c.producers.view_is) at c.requires.home) c.index_mut-2.ensures.value
    (rw (← c.self.view_is) at c.requires.sender) c.index_mut.ensures.value

pub invariant_of-self : goal.invariant_of-self
invariant_of-self g c =
    consumers-set _ _ _ c.self.invariant c.index_mut.ensures.value c.pop_beside.ensures.ring
    (λ marked. popped-marked c.pop_beside.result c.pop_beside.ensures.some c.pop_beside.ensures.none marked)

pub invariant_of-producers : goal.invariant_of-producers
invariant_of-producers g c = posting-looked g.N.Names.kit _ _ _ _ _ _ _ c.producers.invariant c.index_mut-2.ensures.value c.pop_beside.ensures.producer

pub returns-clause-some : goal.returns-clause-some
returns-clause-some g c =
    rw (← c.self.view_is) (IfSome_then c.pop_beside.result c.pop_beside.ensures.some
    (λ r more. takes-more _ _ _ _ _ _ c.self.invariant (rw (← c.self.view_is) at c.requires.sender) c.index_mut.ensures.value more))

pub returns-clause-follows : goal.returns-clause-follows
returns-clause-follows g c =
    rw (← c.self.view_is) (IfSome_then c.pop_beside.result c.pop_beside.ensures.allowed
    (λ r allowed. followed-taken _ _ _ _ r c.self.invariant (rw (← c.self.view_is) at c.requires.sender) c.index_mut.ensures.value allowed))

pub returns-clause-none : goal.returns-clause-none
returns-clause-none g c =
    rw (← c.self.view_is) (IfNone_then c.pop_beside.result c.pop_beside.ensures.none (λ same. takes-same _ _ _ _ _ c.index_mut.ensures.value same))

pub returns-clause-oldest : goal.returns-clause-oldest
returns-clause-oldest g c =
    let own = own-sender _ _ _ _ _ _ _ c.producers.view_is c.self.view_is c.requires.own in
    c.pop_beside.ensures.oldest
    ∙ oldest-at c.producers.inside.capacity _ _ (rw own at c.producers.invariant.0) c.self.invariant
    (rw (← c.self.view_is, ← c.producers.view_is) at c.requires.home) c.index_mut-2.ensures.value
    (rw (← c.self.view_is) at c.requires.sender) c.index_mut.ensures.value
    ∙ ap (λ (p : Posts). slice_get (posted_to p c.self.inside.home) (length (taken_from (takes c.self.inside.home c.self.inside.ends.items) c.self.inside.home))) c.producers.view_is
    ∙ ap (λ (t : Takes). slice_get (posted_to c.args.producers.now t.home) (length (taken_from t t.home))) c.self.view_is
    ∙ ap (λ (q : ℕ). slice_get (posted_to c.args.producers.now c.args.self.now.home) (length (taken_from c.args.self.now q))) (sym c.requires.own)

pub returns-clause-producers : goal.returns-clause-producers
returns-clause-producers g c =
    rw (← c.self.view_is, ← c.producers.view_is) (
    posts-looked _ _ _ _ _ _ (rw (← c.self.view_is, ← c.producers.view_is) at c.requires.home) c.index_mut-2.ensures.value
    c.pop_beside.ensures.producer.1 c.pop_beside.ensures.producer.2
    )
