use Rattle.std.proofs.Common.{◌≡◌, ◌+◌, List, vec_len}
use Rattle.eevdf_ops.specs.{declared.deeds.Line.Line, Setup.cpus_of}
use Rattle.eevdf_fleet.specs.{Board.IsToken, Board.Known, Board.claims_of, Claims.AllTell, Closings.AllPut, Closings.queue_count, Fleets.setup_of}
use Rattle.eevdf_fleet.proofs.closing.close_locks.Given as goal

abbrev pub invariant-loop-lock : goal.invariant-loop-lock
invariant-loop-lock g l = record {
  token : IsToken g.N.Names.kit.board g.N.Names.kit.terms l.token;
  tell : (lines : List Line) → AllTell g.N.Names.kit.terms lines (claims_of l.token) → AllTell g.N.Names.kit.terms lines (claims_of l.fn.token);
  put : (lines : List Line) → Known g.N.Names.kit.terms lines (claims_of l.token) → AllPut (cpus_of (setup_of g.N.Names.kit)) l.queues.items (claims_of l.token);
  count : queue_count (claims_of l.token) + vec_len l.locks ≡ cpus_of (setup_of g.N.Names.kit);
  cpus : vec_len l.queues ≡ cpus_of (setup_of g.N.Names.kit);
}

abbrev pub decreases-loop-lock : goal.decreases-loop-lock
decreases-loop-lock g l = vec_len l.locks
