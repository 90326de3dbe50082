use Rattle.std.proofs.Common.{subst}
use Rattle.eevdf_fleet.specs.Endless.{AreListed, HasDrained, Seat, seat_of_parts}
use Rattle.eevdf_fleet.specs.Fleets.{setup_of}
use Rattle.eevdf_fleet.proofs.EndlessSeats.{any-room, are-listed, has-drained}
use Rattle.eevdf_fleet.proofs.endless.fleet.Fleet.drain_into.Goals as goal

pub drain_into-listed-requires-clause-room : goal.drain_into-listed-requires-clause-room
drain_into-listed-requires-clause-room g c = any-room _ _ _ c.self.invariant

pub returns-clause-drained : goal.returns-clause-drained
returns-clause-drained g c =
    subst (λ (s : Seat). HasDrained (setup_of g.N.Names.kit) c.drain_into-listed.result.drained s (seat_of_parts c.drain_into-listed.new.seat)) c.seat.view_is
    (has-drained g.N.Names.kit.terms c.drain_into-listed.result.drained c.seat.inside.parts c.drain_into-listed.new.seat c.drain_into-listed.ensures.drained c.know.ensures)

pub returns-clause-wakes : goal.returns-clause-wakes
returns-clause-wakes g c =
    subst (λ (s : Seat). AreListed s (seat_of_parts c.drain_into-listed.new.seat) c.args.wakes.now.items c.drain_into-listed.new.wakes.items) c.seat.view_is
    (are-listed c.seat.inside.parts c.drain_into-listed.new.seat _ _ c.drain_into-listed.ensures.listed)
