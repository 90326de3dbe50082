use Rattle.std.proofs.Common.{◌≡◌, ◌≤◌, ◌-◌, ◌++◌, length, map, take}
use Rattle.eevdf_report.specs.TextSchedules.{schedule_lines}
use Rattle.eevdf_report.proofs.text_blocks.push_schedule.Given as goal

abbrev pub invariant-loop-done : goal.invariant-loop-done
invariant-loop-done l = record {
  within : l.done ≤ length l.lines;
  text : l.text.items ≡ l.initial.text.items ++ schedule_lines (map (λ r. r.now) (take l.done l.lines));
}

abbrev pub decreases-loop-done : goal.decreases-loop-done
decreases-loop-done l = length l.lines - l.done
