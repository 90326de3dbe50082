-- What a task that ages adds to the sums.
use Rattle.std.proofs.Common.{◌≡◌, ℕ, ◌^◌, ◌≤◌, ap, ◌∙◌, arith}
use Rattle.std.specs.Prelude.{ℤ, pos, ◌+ℤ◌, ◌-ℤ◌, ◌*ℤ◌, unsigned_abs}
use Rattle.std.proofs.Math.Nat.{mul-le-mul_right, mul-le-mul_left}
use Rattle.std.proofs.lemmas.Int.{ints, unsigned_abs-mul}
use Rattle.eevdf_queue.proofs.Scaled.{difference_scaled}

pub growth_small : (z : ℤ) (w : ℕ) → unsigned_abs z ≤ 2 ^ 40 → w ≤ 88761 → unsigned_abs (z *ℤ pos w) ≤ 2 ^ 57
growth_small z w h k = omega (arith, unsigned_abs-mul z (pos w), mul-le-mul_right w h, mul-le-mul_left (2 ^ 40) k)

pub aged_sum : (a b m r g z : ℤ) (w x : ℕ) → g ≡ z *ℤ pos x → z ≡ b -ℤ a → x ≡ w → r ≡ g +ℤ m → (a *ℤ pos w) +ℤ r ≡ (b *ℤ pos w) +ℤ m
aged_sum a b m r g z w x k h i j =
    let p : g ≡ (b *ℤ pos w) -ℤ (a *ℤ pos w) = k ∙ ap (λ (n : ℕ). z *ℤ pos n) i ∙ ap (λ (y : ℤ). y *ℤ pos w) h ∙ difference_scaled b a w in omega (arith, ints, j, p)
