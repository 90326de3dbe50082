use Rattle.std.proofs.Common.{arith, ℕ, ◌≡◌, ◌<◌, ◌≤◌, ◌⊎◌, inl, inr}
use Rattle.eevdf_time_text.proofs.spans.span.Goals.{else-least-ge1-via-then-least-ge1+else-least-most, else-least-ge1-via-else-least-ge1}
use Rattle.eevdf_time_text.proofs.spans.span.Goals as goal

either_end : (limit least most : ℕ) → (limit < least) ⊎ (limit < most) → least ≤ most → limit < most
either_end limit least most (inl h) order = omega (arith, h, order)
either_end limit least most (inr h) order = h

pub returns-in_err-least-clause-none : goal.returns-in_err-least-clause-none
returns-in_err-least-clause-none c =
    rw c.from_residual.ensures (λ least most is some order. either_end _ least most (c.in_err-least.ensures.none least most is) order)

pub returns-else-least-ge1-clause-none : goal.returns-else-least-ge1-clause-none
returns-else-least-ge1-clause-none c =
    λ least most is some order.
    let same : (least ≡ c.in_ok-least.least) × (most ≡ c.in_ok-least.most) = c.in_ok-least.ensures.only least most is in
    elim c.else-least-ge1.branch [
      | else-least-ge1-via-then-least-ge1+else-least-most w ↦ absurd (omega (arith, w.if-least-most.false, same.0, same.1, order))
      | else-least-ge1-via-else-least-ge1 w ↦ absurd (omega (arith, w.if-least-ge1.false, same.0, some))
    ]
