use Rattle.std.proofs.Common.{◌≡◌, ◌≤◌, take}
use Rattle.eevdf_fleet.specs.ProgramRuns.{program_posts}
use Rattle.eevdf_fleet.proofs.program_needs.posts_of.Given as goal

abbrev pub invariant-loop-op : goal.invariant-loop-op
invariant-loop-op l = record {
  posts : l.posts ≡ program_posts (take l.op-index l.program);
  within : l.posts ≤ l.op-index;
}
