use Rattle.std.proofs.Common.{◌≡◌}
use Rattle.std.specs.FinMap.{entries}
use Rattle.eevdf_queue.specs.Ascending.{from_number}
use Rattle.eevdf_queue.proofs.queue.Queue.asleep_from.Given as goal

abbrev pub invariant-loop-number : goal.invariant-loop-number
invariant-loop-number l =
    from_number l.fn.first (entries l.fn.self.state.asleep) ≡ from_number l.number (entries l.fn.self.state.asleep)
