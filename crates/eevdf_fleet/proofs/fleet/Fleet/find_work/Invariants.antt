use Rattle.std.proofs.Common.{◌+◌, ◌<◌, ◌≤◌}
use Rattle.eevdf_ops.specs.Setup.{cpus_of}
use Rattle.eevdf_fleet.specs.Fleets.{setup_of}
use Rattle.eevdf_fleet.proofs.Sweeps.{IsTrying}
use Rattle.eevdf_fleet.proofs.fleet.Fleet.find_work.Given as goal

abbrev pub invariant-loop-steps : goal.invariant-loop-steps
invariant-loop-steps g l = record {
  some : 0 < l.steps;
  room : cpus_of (setup_of g.N.Names.kit) ≤ l.seat.room + l.steps;
  trying : IsTrying (cpus_of (setup_of g.N.Names.kit)) l.steps l.initial.seat l.seat;
}
