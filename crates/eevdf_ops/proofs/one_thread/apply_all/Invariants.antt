use Rattle.std.proofs.Common.{◌≡◌, ◌++◌, true, length, drop}
use Rattle.std.specs.List.{list_all}
use Rattle.eevdf_ops.specs.{Setup.is_allowed, Outcome.machine_of, Whole.lines_of, Whole.machine_after}
use Rattle.eevdf_ops.proofs.one_thread.apply_all.Given as goal

abbrev pub invariant-loop-deed : goal.invariant-loop-deed
invariant-loop-deed l = record {
  homes : l.solo.homes ≡ l.initial.solo.homes;
  cpus : length l.solo.queues ≡ length l.initial.solo.queues;
  allowed : list_all (is_allowed (length l.solo.queues) l.solo.homes) (drop l.deed-index l.deeds) ≡ true;
  lines : l.lines.items ++ lines_of l.solo.homes (machine_of l.solo.queues) (drop l.deed-index l.deeds)
      ≡ lines_of l.initial.solo.homes (machine_of l.initial.solo.queues) l.deeds;
  machine : machine_after l.solo.homes (machine_of l.solo.queues) (drop l.deed-index l.deeds)
      ≡ machine_after l.initial.solo.homes (machine_of l.initial.solo.queues) l.deeds;
}
