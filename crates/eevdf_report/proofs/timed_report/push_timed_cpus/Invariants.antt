use Rattle.std.proofs.Common.{◌≡◌, ◌++◌}
use Rattle.std.specs.List.{flat_map, range_with_len}
use Rattle.eevdf_ops.specs.Outcome.{machine_of}
use Rattle.eevdf_report.specs.TextReport.{timed_cpu_text}
use Rattle.eevdf_report.proofs.timed_report.push_timed_cpus.Given as goal

abbrev pub invariant-loop-cpu : goal.invariant-loop-cpu
invariant-loop-cpu l = l.text.items ≡ l.initial.text.items ++ flat_map (timed_cpu_text l.outcome.lines (machine_of l.outcome.queues) l.outcome.left) (range_with_len 0 l.cpu)
