use Rattle.std.proofs.Common.{◌≡◌, ◌++◌, take}
use Rattle.eevdf_clocks.specs.Times.{after_all, opened}
use Rattle.eevdf_report.specs.TextTimes.{timed_schedule}
use Rattle.eevdf_report.proofs.text_times.push_timed_schedule.Given as goal

abbrev pub invariant-loop-line : goal.invariant-loop-line
invariant-loop-line l = record {
  clocks : l.clocks ≡ after_all opened (take l.line-index l.lines);
  text : l.text.items ≡ l.initial.text.items ++ timed_schedule l.cpu (take l.line-index l.lines);
}
