use Rattle.std.proofs.Common.{◌≡◌, ◌++◌, take}
use Rattle.eevdf_report.specs.TextReport.{script_lines}
use Rattle.eevdf_report.proofs.text_lines.push_script_lines.Given as goal

abbrev pub invariant-loop-line : goal.invariant-loop-line
invariant-loop-line l = l.text.items ≡ l.initial.text.items ++ script_lines (take l.line-index l.lines)
