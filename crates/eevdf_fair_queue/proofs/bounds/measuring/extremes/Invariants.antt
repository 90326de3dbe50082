use Rattle.std.proofs.Common.{◌≡◌}
use Rattle.std.specs.List.{fold}
use Rattle.eevdf_fair_queue.specs.Measured.{beside, extremes}
use Rattle.eevdf_fair_queue.proofs.bounds.measuring.extremes.Given as goal

abbrev pub invariant-loop-task : goal.invariant-loop-task
invariant-loop-task l = fold beside l.extremes l.task-iterator ≡ extremes l.queue.state.runnable
