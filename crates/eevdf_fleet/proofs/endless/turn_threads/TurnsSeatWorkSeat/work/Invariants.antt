use Rattle.std.proofs.Common.{◌≡◌}
use Rattle.eevdf_fleet.specs.{Endless.Seat, EndlessTurns.HasTurned}
use Rattle.eevdf_fleet.proofs.endless.turn_threads.TurnsSeatWorkSeat.work.Given as goal

-- what the turns to come make of the seat is what all turns make of it
abbrev pub invariant-loop : goal.invariant-loop
invariant-loop g l =
    let Gives = g.T.ExchangeTurn.turn_gives l.self.each.now g.N.Names.kit in
    record {
      cpu : l.seat.cpu ≡ l.fn.seat.cpu;
      turned : (after : Seat) → HasTurned Gives l.seat after → HasTurned Gives l.fn.seat after;
    }
