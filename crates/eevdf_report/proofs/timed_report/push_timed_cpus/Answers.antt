use Rattle.eevdf_ops.specs.Outcome.{machine_of}
use Rattle.eevdf_report.specs.TextReport.{timed_cpu_text}
use Rattle.eevdf_report.proofs.ByNumber.{text_more}
use Rattle.eevdf_report.proofs.timed_report.push_timed_cpus.Goals as goal

pub loop-cpu-preserved : goal.loop-cpu-preserved
loop-cpu-preserved c =
    text_more (timed_cpu_text c.args.outcome.now.lines (machine_of c.args.outcome.now.queues) c.args.outcome.now.left) c.loop-cpu.cpu c.args.text.now.items c.loop-cpu.text.items _ c.loop-cpu.invariant c.in_ok-push_timed_cpu.ensures
