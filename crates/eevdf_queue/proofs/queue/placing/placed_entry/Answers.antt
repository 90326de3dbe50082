use Rattle.std.proofs.Common.{◌∙◌, ap, sym, rules}
use Rattle.std.specs.Prelude.{ℤ}
use Rattle.std.proofs.lemmas.Int.{to_z-of_z}
use mir.Syntax.{w64}
use mir.Val.{SFits}
use Rattle.eevdf_weight.specs.Placement.{within_range}
use Rattle.eevdf_queue.specs.{Moves.entry_in_range, Moves.fresh_entry, Placing.runtime_of}
use Rattle.eevdf_queue.proofs.Placed.{within_is}
use Rattle.eevdf_queue.proofs.queue.placing.placed_entry.Goals as goal

pub returns-in-Some : goal.returns-in-Some
returns-in-Some c =
    let v : ℤ = c.in-Some.v in
    let time : ℤ = c.args.time in
    let n = c.args.sleeper.now in
    let fits : SFits w64 v = search rules in
    let same = within_is (runtime_of time c.args.total n.lag n.nice) v (ap (λ (t : ℤ). within_range (runtime_of t c.args.total n.lag n.nice)) (sym (to_z-of_z w64 time c.ranges.time)) ∙ sym c.in-Some.ensures) in
    c.started_at.ensures
    ∙ ap (λ (z : ℤ). entry_in_range (fresh_entry z n.nice n.slice)) (to_z-of_z w64 v fits ∙ sym same)
