use Rattle.std.proofs.Common.{◌≡◌, ◌≤◌}
use Rattle.eevdf_closed_loop.proofs.closed_loop.ClosedLoop.next_deed.Given as goal

abbrev pub invariant-loop-look : goal.invariant-loop-look
invariant-loop-look l = record {
  machine : l.self.machine ≡ l.initial.self.machine;
  clock : l.initial.self.now ≤ l.self.now;
  deed : l.self.fall_asleep ≡ l.initial.self.fall_asleep;
}
