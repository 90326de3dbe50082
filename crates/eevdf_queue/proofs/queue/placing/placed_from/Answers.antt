use Rattle.std.proofs.Common.{◌≡◌, ◌∙◌, false, to_z, of_z, sym, ap, rules}
use Rattle.std.specs.Prelude.{ℤ, pos, ◌≤ℤ◌, ◌<ℤ◌}
use Rattle.std.specs.Int.{int_max}
use Rattle.std.proofs.lemmas.Int.{to_z-of_z}
use mir.Syntax.{w64, w128}
use mir.Val.{SFits}
use Rattle.eevdf_weight.specs.{Limits.is_in_range, Placement.within_range}
use Rattle.eevdf_queue.specs.{Moves.entry_in_range, Moves.fresh_entry, Placing.runtime_of}
use Rattle.eevdf_queue.proofs.{Placed.within_is, Placed.beyond_is, Waking.by_the_place, Waking.past_the_range}
use Rattle.eevdf_queue.proofs.queue.placing.placed_from.Goals as goal
use Rattle.eevdf_queue.proofs.queue.placing.placed_from.Goals.{In-None}

pub returns-in-Some : goal.returns-in-Some
returns-in-Some c =
    let v : ℤ = c.in-Some.v in
    let time : ℤ = c.args.time in
    let n = c.args.sleeper.now in
    let fits : SFits w64 v = search rules in
    let most : SFits w128 c.max.result = record { sfits = c.max.type_inv } in
    let wide : SFits w128 c.from.result = record { sfits = c.from.type_inv } in
    let same = within_is (runtime_of time c.args.total n.lag n.nice) v (ap (λ (t : ℤ). within_range (runtime_of t c.args.total n.lag n.nice)) (sym (to_z-of_z w64 time c.ranges.time)) ∙ sym c.runtime.ensures ∙ c.in-Some.is) in
    c.started_from.ensures
    ∙ ap (λ (z : ℤ). entry_in_range (fresh_entry z n.nice n.slice))
    (to_z-of_z w128 c.max.result most ∙ c.max.ensures.value
    ∙ ap (λ (z : ℤ). int_max z (to_z w128 (of_z w128 c.from.result))) (to_z-of_z w128 c.args.place c.ranges.place)
    ∙ ap (int_max c.args.place) (to_z-of_z w128 c.from.result wide ∙ c.from.ensures ∙ to_z-of_z w64 v fits ∙ sym same))

beyond : (c : In-None) → is_in_range (runtime_of c.args.time c.args.total c.args.sleeper.now.lag c.args.sleeper.now.nice) ≡ false
beyond c =
    let n = c.args.sleeper.now in
    beyond_is (runtime_of c.args.time c.args.total n.lag n.nice)
    (ap (λ (t : ℤ). within_range (runtime_of t c.args.total n.lag n.nice)) (sym (to_z-of_z w64 c.args.time c.ranges.time)) ∙ sym c.runtime.ensures ∙ c.in-None.is)

pub returns-in-None : goal.returns-in-None
returns-in-None c =
    let owes : c.args.sleeper.now.lag <ℤ pos 0 = search rules in
    sym (past_the_range c.args.place c.args.time c.args.total c.args.sleeper.now.lag c.args.sleeper.now.nice c.args.sleeper.now.slice c.requires.time
    (beyond (goal.at.returns-in-None c).In-None) owes)

pub returns-in-None-2 : goal.returns-in-None-2
returns-in-None-2 c =
    let n = c.args.sleeper.now in
    let owed : pos 0 ≤ℤ n.lag = search rules in
    c.started_from-in-None-2.ensures
    ∙ ap (λ (z : ℤ). entry_in_range (fresh_entry z n.nice n.slice)) (to_z-of_z w128 c.args.place c.ranges.place)
    ∙ by_the_place c.args.place c.args.time c.args.total n.lag n.nice n.slice c.requires.time (beyond (goal.at.returns-in-None-2 c).In-None) owed
