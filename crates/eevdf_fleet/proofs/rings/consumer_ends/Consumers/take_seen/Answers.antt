use Rattle.std.proofs.lemmas.Option.{IfSome_then}
use Rattle.eevdf_fleet.proofs.{MarkedItems.popped-marked}
use Rattle.eevdf_fleet.proofs.RingEnds.{consumers-set, followed-taken, takes-same, takes-more}
use Rattle.eevdf_fleet.proofs.RingPlaces.{IfNone_then}
use Rattle.eevdf_fleet.proofs.rings.consumer_ends.Consumers.take_seen.Goals as goal

pub invariant_of-self : goal.invariant_of-self
invariant_of-self g c =
    consumers-set _ _ _ c.self.invariant c.index_mut.ensures.value c.pop.ensures.ring (λ marked. popped-marked c.pop.result c.pop.ensures.some c.pop.ensures.none marked)

pub returns-clause-some : goal.returns-clause-some
returns-clause-some g c =
    rw (← c.self.view_is) (IfSome_then c.pop.result c.pop.ensures.some (λ r more. takes-more _ _ _ _ _ _ c.self.invariant (rw (← c.self.view_is) at c.requires) c.index_mut.ensures.value more))

pub returns-clause-follows : goal.returns-clause-follows
returns-clause-follows g c =
    rw (← c.self.view_is) (IfSome_then c.pop.result c.pop.ensures.allowed
    (λ r allowed. followed-taken _ _ _ _ r c.self.invariant (rw (← c.self.view_is) at c.requires) c.index_mut.ensures.value allowed))

pub returns-clause-none : goal.returns-clause-none
returns-clause-none g c =
    rw (← c.self.view_is) (IfNone_then c.pop.result c.pop.ensures.none (λ same. takes-same _ _ _ _ _ c.index_mut.ensures.value same))
