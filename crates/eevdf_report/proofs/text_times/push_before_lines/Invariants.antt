use Rattle.std.proofs.Common.{◌≡◌, ◌++◌, true, length}
use Rattle.eevdf_report.specs.TextTimes.{before_lines}
use Rattle.eevdf_report.proofs.text_times.push_before_lines.Given as goal

abbrev pub invariant-bytes : goal.invariant-bytes
invariant-bytes l = l.text.items ++ before_lines l.word l.begins l.left ≡ l.initial.text.items ++ before_lines l.word true l.lines

abbrev pub decreases-bytes : goal.decreases-bytes
decreases-bytes l = length l.left
