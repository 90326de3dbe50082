use Rattle.std.proofs.Common.{subst}
use Rattle.std.specs.Prelude.{IsSomeAnd}
use Rattle.eevdf_ops.specs.Programs.{deed_of}
use Rattle.eevdf_fleet.specs.Endless.{HasDone, Seat, seat_of_parts}
use Rattle.eevdf_fleet.specs.Fleets.{setup_of}
use Rattle.eevdf_fleet.proofs.EndlessSeats.{any-room, has-operated}
use Rattle.eevdf_fleet.proofs.endless.fleet.Fleet.operate.Goals as goal

pub operate-answer-requires-clause-room : goal.operate-answer-requires-clause-room
operate-answer-requires-clause-room g c = any-room _ _ _ c.self.invariant

pub returns : goal.returns
returns g c =
    subst (λ (s : Seat). IsSomeAnd (deed_of s.cpu c.args.op) (λ deed. HasDone (setup_of g.N.Names.kit) deed c.operate-answer.result s (seat_of_parts c.operate-answer.new.seat))) c.seat.view_is
    (has-operated g.N.Names.kit.terms (deed_of c.seat.inside.parts.seat.cpu c.args.op) c.operate-answer.result c.seat.inside.parts c.operate-answer.new.seat c.operate-answer.ensures c.know.ensures)
