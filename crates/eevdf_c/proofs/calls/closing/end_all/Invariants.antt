use Rattle.std.proofs.Common.{◌≡◌}
use Rattle.eevdf_c.specs.Leaving.{AreGone, ended_below}
use Rattle.eevdf_c.proofs.calls.closing.end_all.Given as goal

abbrev pub invariant-loop-number : goal.invariant-loop-number
invariant-loop-number l = record {
  after : l.queue.state ≡ ended_below l.initial.queue.state l.number;
  gone : AreGone l.queue.state l.number;
}
