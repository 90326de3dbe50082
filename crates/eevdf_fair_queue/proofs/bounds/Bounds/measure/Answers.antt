use Rattle.std.proofs.Common.{refl, sym, ap, subst, ◌∙◌}
use Rattle.std.specs.Prelude.{◌≤ℤ◌}
use Rattle.eevdf_fair_queue.specs.{declared.bounds.Bounds.Bounds, Measured.within, Lateness.lateness_bound}
use Rattle.eevdf_fair_queue.proofs.{Keeping.fair_of, Measured.stays_fair, Measured.measured_is_no_later}
use Rattle.eevdf_fair_queue.proofs.bounds.Bounds.measure.Goals as goal

pub returns-clause-fair : goal.returns-clause-fair
returns-clause-fair c = λ fair.
    fair_of _ _ _ _ refl (c.within.ensures ∙ ap (within c.args.self.now) c.extremes.ensures)
    (stays_fair c.args.queue.now.state c.args.self.now c.every_queue.ensures fair)

pub returns-clause-no_later : goal.returns-clause-no_later
returns-clause-no_later c = λ fair.
    subst (λ (b : Bounds). lateness_bound c.args.queue.now.state b ≤ℤ lateness_bound c.args.queue.now.state c.args.self.now)
    (sym (c.within.ensures ∙ ap (within c.args.self.now) c.extremes.ensures))
    (measured_is_no_later c.pick_is_first.ensures c.args.queue.now.state c.args.self.now c.every_queue.ensures fair)
