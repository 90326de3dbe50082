use Rattle.std.proofs.Common.{sym, ◌∙◌}
use Rattle.eevdf_fleet.proofs.RingEnds.{free-after, posting-looked, posts-looked}
use Rattle.eevdf_fleet.proofs.rings.producer_ends.Producers.free.Goals as goal

pub invariant_of-self : goal.invariant_of-self
invariant_of-self g c = posting-looked g.N.Names.kit _ _ _ _ _ _ _ c.self.invariant c.index_mut.ensures.value c.free.ensures.looked

pub returns-clause-looked : goal.returns-clause-looked
returns-clause-looked g c =
    rw (← c.self.view_is) (posts-looked _ _ _ _ _ _ (rw (← c.self.view_is) at c.requires) c.index_mut.ensures.value c.free.ensures.looked.1 c.free.ensures.looked.2)

pub returns-clause-free : goal.returns-clause-free
returns-clause-free g c =
    c.free.ensures.free
    ∙ sym (free-after c.self.inside.capacity c.self.inside.sender c.self.inside.ends.items c.args.home _ c.free.new.producer (rw (← c.self.view_is) at c.requires) c.index_mut.ensures.value)
