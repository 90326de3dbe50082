use Rattle.std.proofs.Common.{◌≡◌, List, length}
use Rattle.std.specs.Prelude.{All}
use Rattle.eevdf_ops.specs.{declared.deeds.Line.Line, Setup.cpus_of}
use Rattle.eevdf_fleet.specs.{Board.IsToken, Board.claims_of, Claims.AllTell, Closings.IsOfLines, Closings.queue_count}
use Rattle.eevdf_fleet.specs.Fleets.{Parts, returned, seats_in, setup_of}
use Rattle.eevdf_fleet.proofs.closing.close_seats.Given as goal

abbrev pub invariant-loop-seat : goal.invariant-loop-seat
invariant-loop-seat g l = record {
  token : IsToken g.N.Names.kit.board g.N.Names.kit.terms l.token;
  tell : (lines : List Line) → AllTell g.N.Names.kit.terms lines (claims_of l.token) → All (IsOfLines lines) l.yielded;
  none : queue_count (claims_of l.token) ≡ 0;
  posted : All (λ (p : Parts). length p.seat.posted ≡ cpus_of (setup_of g.N.Names.kit)) l.yielded;
  ends : l.ends ≡ returned (cpus_of (setup_of g.N.Names.kit)) (seats_in l.yielded);
}
