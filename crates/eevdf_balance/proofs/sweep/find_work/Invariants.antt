use Rattle.std.proofs.Common.{◌≡◌, ◌+◌, length}
use Rattle.eevdf_ops.specs.{Outcome.machine_of}
use Rattle.eevdf_balance.specs.FindWork.{NoneGivesBefore}
use Rattle.eevdf_balance.proofs.sweep.find_work.Given as goal

abbrev pub invariant-loop-steps : goal.invariant-loop-steps
invariant-loop-steps l = record {
  homes : l.solo.homes ≡ l.initial.solo.homes;
  cpus : length l.solo.queues ≡ length l.initial.solo.queues;
  machine : machine_of l.solo.queues ≡ machine_of l.initial.solo.queues;
  tried : NoneGivesBefore l.initial.solo.homes (machine_of l.initial.solo.queues) l.cpu (l.cpu + l.steps);
}
