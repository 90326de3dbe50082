use Rattle.eevdf_report.proofs.ScheduleLines.{schedules_of-more}
use Rattle.eevdf_report.proofs.schedules.Schedules.of.Goals as goal

pub loop-line-preserved : goal.loop-line-preserved
loop-line-preserved c =
    schedules_of-more c.args.cpus c.args.lines.now c.loop-line.line-index c.line-item.result c.loop-line.schedules c.push.new.self c.loop-line-test.true c.line-item.is c.loop-line.invariant
    c.in_ok-push.ensures.cpus c.in_ok-push.ensures.each
