use Rattle.std.proofs.Common.{◌≡◌, ◌++◌}
use Rattle.std.specs.List.{flat_map}
use Rattle.std.specs.FinMap as finite
use Rattle.eevdf_report.specs.TextQueue.{runnable_line, task_lines}
use Rattle.eevdf_report.proofs.FoundEntries.{AreFound}
use Rattle.eevdf_report.proofs.text_queue.push_task_lines.Given as goal

abbrev pub invariant-loop-task : goal.invariant-loop-task
invariant-loop-task l = record {
  found : AreFound (finite.get l.queue.state.runnable) l.task-iterator;
  text : l.text.items ++ flat_map (runnable_line l.queue.state) l.task-iterator ≡ l.initial.text.items ++ task_lines l.queue.state;
}
