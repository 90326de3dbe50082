use Rattle.std.proofs.Common.{subst}
use Rattle.eevdf_fleet.specs.Endless.{HasSeenMore, Seat, seat_of_parts}
use Rattle.eevdf_fleet.specs.Fleets.{setup_of}
use Rattle.eevdf_fleet.proofs.EndlessSeats.{has-seen-more}
use Rattle.eevdf_fleet.proofs.endless.fleet.Fleet.look.Goals as goal

pub returns-clause-seat : goal.returns-clause-seat
returns-clause-seat g c =
    subst (λ (s : Seat). HasSeenMore (setup_of g.N.Names.kit) s (seat_of_parts c.look.new.seat)) c.seat.view_is
    (has-seen-more g.N.Names.kit.terms c.seat.inside.parts c.look.new.seat c.look.ensures.seat c.look.ensures.known)
