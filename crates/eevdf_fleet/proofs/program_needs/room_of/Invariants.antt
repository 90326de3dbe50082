use Rattle.std.proofs.Common.{◌≡◌, ◌≤◌, ◌*◌, take}
use Rattle.eevdf_fleet.specs.ProgramRuns.{program_room}
use Rattle.eevdf_fleet.proofs.program_needs.room_of.Given as goal

abbrev pub invariant-loop-op : goal.invariant-loop-op
invariant-loop-op l = record {
  room : l.room ≡ program_room l.cpus (take l.op-index l.program);
  within : l.room ≤ 64 * l.op-index;
}
