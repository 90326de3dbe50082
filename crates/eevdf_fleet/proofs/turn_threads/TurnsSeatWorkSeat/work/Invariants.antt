use Rattle.std.proofs.Common.{◌≡◌, ◌-◌}
use Rattle.eevdf_fleet.specs.{Fleets.Seat, Turns.HasTurned}
use Rattle.eevdf_fleet.proofs.turn_threads.TurnsSeatWorkSeat.work.Given as goal

-- what the turns that are left make of the seat is what all turns make of it
abbrev pub invariant-loop-turn : goal.invariant-loop-turn
invariant-loop-turn g l =
    let Gives = g.T.SeatTurn.turn_gives l.self.each.now g.N.Names.kit in
    record {
      cpu : l.seat.cpu ≡ l.fn.seat.cpu;
      turned : (after : Seat) → HasTurned Gives l.turn (l.turn-end - l.turn) l.seat after → HasTurned Gives 0 l.turn-end l.fn.seat after;
    }
