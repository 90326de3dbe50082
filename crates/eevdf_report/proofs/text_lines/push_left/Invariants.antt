use Rattle.std.proofs.Common.{◌≡◌, ◌++◌, take}
use Rattle.eevdf_report.specs.TextReport.{left_from}
use Rattle.eevdf_report.proofs.text_lines.push_left.Given as goal

abbrev pub invariant-loop-task : goal.invariant-loop-task
invariant-loop-task l = l.text.items ≡ l.initial.text.items ++ left_from l.sender (take l.task-index l.tasks)
