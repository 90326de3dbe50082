use Rattle.std.proofs.Common.{◌≡◌, ◌++◌, replicate}
use Rattle.eevdf_report.proofs.text_times.push_spaces.Given as goal

abbrev pub invariant-loop : goal.invariant-loop
invariant-loop l = l.text.items ≡ l.initial.text.items ++ replicate l.counter 32
