use Rattle.std.proofs.Common.{◌≡◌, ◌≤◌, take}
use Rattle.eevdf_ops.specs.Setup.{cpus_of}
use Rattle.eevdf_fleet.specs.ProgramRuns.{greatest, program_room}
use Rattle.eevdf_fleet.proofs.program_needs.quota.Given as goal

abbrev pub invariant-loop-cpu : goal.invariant-loop-cpu
invariant-loop-cpu l = record {
  quota : l.quota ≡ greatest (program_room (cpus_of l.setup)) (take l.cpu l.setup.programs);
  within : l.quota ≤ 640000;
}
