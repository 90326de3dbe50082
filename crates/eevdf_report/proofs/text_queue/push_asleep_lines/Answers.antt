use Rattle.std.proofs.Common.{ℕ, ℤ, List, ◌++◌, ap, ◌∙◌}
use Rattle.std.specs.List.{flat_map}
use Rattle.std.specs.FinMap as finite
use Rattle.std.proofs.lemmas.List.Folds.{flat_map-map}
use Rattle.eevdf_queue.specs.{Ascending.with_lag, Doze.place_of}
use Rattle.eevdf_report.specs.TextQueue.{asleep_line}
use Rattle.eevdf_report.proofs.text_queue.push_asleep_lines.Goals as goal

pub loop-task-init : goal.loop-task-init
loop-task-init c =
    let line : ℕ × ℤ → List ℕ = λ a. asleep_line a.0 a.1 (place_of c.args.queue.now.state a.0) in
    ap (λ (es : List (ℕ × ℤ)). c.args.text.now.items ++ flat_map line es) (c.into_iter-task-iterator.ensures.into_iter_gives ∙ c.sleeping_tasks-task-items.ensures)
    ∙ ap (λ (t : List ℕ). c.args.text.now.items ++ t) (flat_map-map line with_lag (finite.entries c.args.queue.now.state.asleep))
