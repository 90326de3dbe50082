use Rattle.std.proofs.Common.{◌≡◌, ℕ, ◌<◌, false}
use Rattle.std.specs.Prelude.{◌&&◌}
use Rattle.measures.specs.SharedTasks.{stands_in}
use Rattle.measures.proofs.queue.pull_queues.share_no_task.Given as goal

abbrev pub invariant-loop-number : goal.invariant-loop-number
invariant-loop-number l = (t : ℕ) → t < l.number → (stands_in l.first.state t && stands_in l.second.state t) ≡ false
