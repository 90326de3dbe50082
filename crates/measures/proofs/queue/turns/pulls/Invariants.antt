use Rattle.measures.specs.SharedTasks.{ShareNoTask}
use Rattle.measures.proofs.queue.turns.pulls.Given as goal

abbrev pub invariant-loop : goal.invariant-loop
invariant-loop l = ShareNoTask l.queues.first.state l.queues.second.state
