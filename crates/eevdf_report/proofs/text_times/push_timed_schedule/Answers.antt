use Rattle.eevdf_clocks.proofs.MoreLines.{clocks_go_on}
use Rattle.eevdf_report.proofs.TimedLines.{schedule_more}
use Rattle.eevdf_report.proofs.text_times.push_timed_schedule.Goals as goal

pub loop-line-preserved : goal.loop-line-preserved
loop-line-preserved c = record {
  clocks = clocks_go_on c.args.lines.now c.loop-line.line-index c.line-item.result c.loop-line.clocks c.pass-moment.new.self c.loop-line-test.true c.line-item.is c.loop-line.invariant.clocks c.pass-moment.ensures.clocks;
  text =
      schedule_more c.args.cpu c.args.lines.now c.loop-line.line-index c.line-item.result c.loop-line.clocks c.pass-moment.result c.args.text.now.items c.loop-line.text.items c.push_timed_line.new.text.items
      c.loop-line-test.true c.line-item.is c.loop-line.invariant.clocks c.pass-moment.ensures.moment c.loop-line.invariant.text c.in_ok-push_timed_line.ensures;
}
