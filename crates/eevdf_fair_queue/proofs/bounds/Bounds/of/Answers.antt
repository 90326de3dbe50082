use Rattle.std.proofs.Common.{ℤ, refl, ap, ◌∙◌}
use Rattle.eevdf_fair_queue.specs.{declared.bounds.Bounds.Bounds, Bounds.fresh, Measured.within}
use Rattle.eevdf_fair_queue.proofs.{Keeping.fair_of, Measured.measured_is_fair}
use Rattle.eevdf_fair_queue.proofs.bounds.Bounds.of.Goals as goal

pub returns-clause-fair : goal.returns-clause-fair
returns-clause-fair c =
    fair_of _ _ _ _ refl
    (c.within.ensures ∙ ap (λ (b : Bounds). within b c.extremes.result) c.fresh.ensures.value ∙ ap (within fresh) c.extremes.ensures)
    (measured_is_fair c.args.queue.now.state fresh c.every_queue.ensures (λ (turn : ℤ) none. absurd (cc)))
