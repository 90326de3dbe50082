use Rattle.std.proofs.Common.{arith}
use Rattle.eevdf_fleet.proofs.SeatParts.{parts-looked, parts-of, seat-looked-at}
use Rattle.eevdf_fleet.proofs.seat_parts.SeatParts.has_one.Goals as goal

pub has_one-requires : goal.has_one-requires
has_one-requires g c = omega (arith, c.home-home.ensures.below, c.self.invariant.0.posts.to_all)

pub invariant_of-self : goal.invariant_of-self
invariant_of-self g c =
    parts-of g.N.Names.kit _ _ _ _ _ _ _ (parts-looked _ _ _ _ _ _ c.has_one.ensures.looked c.self.invariant.0) c.self.invariant

pub returns-clause-looked : goal.returns-clause-looked
returns-clause-looked g c = seat-looked-at _ _ _ _ _ _ c.has_one.ensures.looked c.home-home.ensures.home c.self.view_is
