use Rattle.std.proofs.Common.{◌≡◌, [], map}
use Rattle.eevdf_report.specs.TextSchedules.{schedules_of}
use Rattle.eevdf_report.proofs.schedules.Schedules.empty.Given as goal

abbrev pub invariant-loop : goal.invariant-loop
invariant-loop l = map (λ v. map (λ r. r.now) v.items) l.lines.items ≡ schedules_of l.counter []
