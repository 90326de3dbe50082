use Rattle.std.proofs.Common.{◌≡◌, ◌<◌, ◌≤◌, Vec, Global, Bor, List, map, length, ⊎_elim, ◌∙◌, arith, refl}
use Rattle.std.proofs.{lemmas.Bool.cases_lt, lemmas.Bool.false≢true, lemmas.List.length-map, lemmas.List.map-append}
use Rattle.eevdf_ops.specs.{declared.deeds.Line.Line, Parts.decider}
use Rattle.eevdf_report.proofs.ScheduleLines.{added, not_added}
use Rattle.eevdf_report.proofs.schedules.Schedules.push.Goals as goal
use Rattle.eevdf_report.proofs.schedules.Schedules.push.Goals.{in-Some+in_ok-push, in_default}

abbrev lines_in : Vec (Bor Line) Global → List Line
lines_in v = map (λ r. r.now) v.items

pub returns-clause-each : goal.returns-clause-each
returns-clause-each c =
    let rows = c.self.inside.lines in
    let own : c.index-cpu.result ≡ decider c.args.line.now.deed = c.index-cpu.ensures.number ∙ c.cpu.ensures in
    rw (← c.self.view_is) (elim c.match-get_mut.branch [
      | in-Some+in_ok-push w ↦
          let here : c.index-cpu.result < length rows.items = omega (arith, w.in-Some.ensures.variant.0 refl, rows.ok.0) in
          rw w.self-inside-is (λ k low. added lines_in rows.items w.in-Some.lines.now w.push.new.self c.args.line.now c.index-cpu.result k own here w.in-Some.ensures.value
          (rw (w.in_ok-push.ensures.items, map-append)))
      | in_default w ↦
          let beyond : rows.len ≤ c.index-cpu.result = ⊎_elim (λ h. absurd (false≢true (w.in_default.ensures.variant.1 h))) (λ h. h) (cases_lt c.index-cpu.result rows.len) in
          rw w.self-inside-is (λ k low. not_added _ c.args.line.now k (omega (arith, length-map rows.items lines_in, rows.ok.0)) low)
    ])
