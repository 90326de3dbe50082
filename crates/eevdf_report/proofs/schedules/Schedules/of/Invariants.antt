use Rattle.std.proofs.Common.{◌≡◌, take}
use Rattle.eevdf_report.specs.TextSchedules.{schedules_of}
use Rattle.eevdf_report.proofs.schedules.Schedules.of.Given as goal

abbrev pub invariant-loop-line : goal.invariant-loop-line
invariant-loop-line l = l.schedules ≡ schedules_of l.cpus (take l.line-index l.lines)
