use Rattle.std.proofs.Common.{List, [], length, get_or, ap, ◌∙◌, arith}
use Rattle.eevdf_ops.specs.Outcome.{machine_of}
use Rattle.eevdf_ops.specs.declared.deeds.Line.{Line}
use Rattle.eevdf_report.specs.{TextReport.cpu_text, TextSchedules.own_lines, TextSchedules.schedule_lines}
use Rattle.eevdf_report.proofs.{ByNumber.text_more, ScheduleLines.length-schedules_of, ScheduleLines.schedule-at, ScheduleLines.texts_of_own}
use Rattle.eevdf_report.proofs.text_report.push_cpus.Goals as goal

pub schedule-requires : goal.schedule-requires
schedule-requires c = omega (arith, ap length c.in_ok-schedules.ensures ∙ length-schedules_of c.cpus.result c.history.result.now)

pub push_cpu-requires-clause-schedule : goal.push_cpu-requires-clause-schedule
push_cpu-requires-clause-schedule c =
    ap schedule_lines
    (c.schedule.ensures
    ∙ ap (λ (s : List (List Line)). get_or s c.loop-cpu.cpu []) c.in_ok-schedules.ensures
    ∙ schedule-at c.cpus.result c.loop-cpu.cpu c.history.result.now (omega arith)
    ∙ ap (own_lines c.loop-cpu.cpu) c.history.ensures)
    ∙ texts_of_own c.loop-cpu.cpu c.args.outcome.now.lines

pub loop-cpu-preserved : goal.loop-cpu-preserved
loop-cpu-preserved c =
    text_more (cpu_text c.args.outcome.now.lines (machine_of c.args.outcome.now.queues) c.args.outcome.now.left) c.loop-cpu.cpu c.args.text.now.items c.loop-cpu.text.items _ c.loop-cpu.invariant c.in_ok-push_cpu.ensures
