use Rattle.std.proofs.Common.{◌≡◌}
use Rattle.eevdf_queue.specs.Ascending.{from_number, runnable_tasks}
use Rattle.eevdf_queue.proofs.queue.Queue.runnable_from.Given as goal

abbrev pub invariant-loop-number : goal.invariant-loop-number
invariant-loop-number l =
    from_number l.fn.first (runnable_tasks l.fn.self.state) ≡ from_number l.number (runnable_tasks l.fn.self.state)
