use Rattle.std.proofs.Common.{◌≤◌, ◌+◌, take}
use Rattle.eevdf_ops.specs.Setup.{cpus_of}
use Rattle.eevdf_fleet.specs.ProgramRuns.{HasRun, program_room, quota_for}
use Rattle.eevdf_fleet.proofs.fleet.Fleet.run_program.Given as goal

abbrev pub invariant-loop-n : goal.invariant-loop-n
invariant-loop-n g l = record {
  run : HasRun l.setup l.cpu (take l.n l.program) l.seat;
  room : quota_for l.setup ≤ l.seat.room + program_room (cpus_of l.setup) (take l.n l.program);
}
