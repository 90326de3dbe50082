use Rattle.std.proofs.Common.{◌≡◌, ℕ, ℤ, ◌++◌}
use Rattle.std.specs.List.{flat_map}
use Rattle.eevdf_queue.specs.Doze.{place_of}
use Rattle.eevdf_report.specs.TextQueue.{asleep_line, asleep_lines}
use Rattle.eevdf_report.proofs.text_queue.push_asleep_lines.Given as goal

abbrev pub invariant-loop-task : goal.invariant-loop-task
invariant-loop-task l = l.text.items ++ flat_map (λ (a : ℕ × ℤ). asleep_line a.0 a.1 (place_of l.queue.state a.0)) l.task-iterator ≡ l.initial.text.items ++ asleep_lines l.queue.state
