use Rattle.std.proofs.Common.{◌<◌}
use Rattle.eevdf_fleet.specs.Fleets.{setup_of}
use Rattle.eevdf_fleet.proofs.EndlessSweeps.{IsTrying}
use Rattle.eevdf_fleet.proofs.endless.fleet.Fleet.find_work.Given as goal

abbrev pub invariant-loop-steps : goal.invariant-loop-steps
invariant-loop-steps g l = record {
  some : 0 < l.steps;
  trying : IsTrying (setup_of g.N.Names.kit) l.steps l.initial.seat l.seat;
}
