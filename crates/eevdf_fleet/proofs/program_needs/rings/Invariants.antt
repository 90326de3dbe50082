use Rattle.std.proofs.Common.{◌≡◌, ◌≤◌, take}
use Rattle.eevdf_fleet.specs.ProgramRuns.{greatest, program_posts}
use Rattle.eevdf_fleet.proofs.program_needs.rings.Given as goal

abbrev pub invariant-loop-cpu : goal.invariant-loop-cpu
invariant-loop-cpu l = record {
  rings : l.rings ≡ greatest program_posts (take l.cpu l.setup.programs);
  within : l.rings ≤ 10000;
}
