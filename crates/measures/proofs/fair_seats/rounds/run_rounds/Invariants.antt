use Rattle.std.proofs.Common.{◌≡◌}
use Rattle.eevdf_fleet.specs.Fleets.{setup_of}
use Rattle.measures.specs.BesideSeats.{IsBeside}
use Rattle.measures.proofs.fair_seats.rounds.run_rounds.Given as goal

abbrev pub invariant-loop-round : goal.invariant-loop-round
invariant-loop-round g l =
    record {
      cpu : l.seat.cpu ≡ l.initial.seat.cpu;
      beside : IsBeside (setup_of g.N.Names.kit) l.seat l.bound;
    }
