use Rattle.std.proofs.Common.{subst}
use Rattle.eevdf_fleet.specs.Endless.{HasDrained, Seat, seat_of_parts}
use Rattle.eevdf_fleet.specs.Fleets.{setup_of}
use Rattle.eevdf_fleet.proofs.EndlessSeats.{any-room, has-drained}
use Rattle.eevdf_fleet.proofs.endless.fleet.Fleet.drain.Goals as goal

pub drain-drained-requires : goal.drain-drained-requires
drain-drained-requires g c = any-room _ _ _ c.self.invariant

pub returns-clause-drained : goal.returns-clause-drained
returns-clause-drained g c =
    subst (λ (s : Seat). HasDrained (setup_of g.N.Names.kit) c.drain-drained.result s (seat_of_parts c.drain-drained.new.seat)) c.seat.view_is
    (has-drained g.N.Names.kit.terms c.drain-drained.result c.seat.inside.parts c.drain-drained.new.seat c.drain-drained.ensures.drained c.know.ensures)
