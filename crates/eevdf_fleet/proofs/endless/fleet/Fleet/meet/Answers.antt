use Rattle.std.proofs.Common.{subst}
use Rattle.eevdf_fleet.specs.Endless.{HasSeenMore, Seat, seat_of_parts}
use Rattle.eevdf_fleet.specs.Fleets.{setup_of}
use Rattle.eevdf_fleet.proofs.EndlessSeats.{has-seen-more}
use Rattle.eevdf_fleet.proofs.endless.fleet.Fleet.meet.Goals as goal

pub returns-clause-seat : goal.returns-clause-seat
returns-clause-seat g c =
    subst (λ (s : Seat). HasSeenMore (setup_of g.N.Names.kit) s (seat_of_parts c.meet.new.seat)) c.seat.view_is
    (has-seen-more g.N.Names.kit.terms c.seat.inside.parts c.meet.new.seat c.meet.ensures.seat c.meet.ensures.seat_known)

pub returns-clause-other : goal.returns-clause-other
returns-clause-other g c =
    subst (λ (s : Seat). HasSeenMore (setup_of g.N.Names.kit) s (seat_of_parts c.meet.new.other)) c.other.view_is
    (has-seen-more g.N.Names.kit.terms c.other.inside.parts c.meet.new.other c.meet.ensures.other c.meet.ensures.other_known)
