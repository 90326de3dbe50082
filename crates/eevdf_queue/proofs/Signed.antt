-- Sums and products of signed numbers that fit 64 bits, or 128.
use Rattle.std.proofs.Common.{◌≡◌, ℕ, ◌^◌, ◌≤◌, Bool, sym, ap, subst, ◌∙◌, arith, to_z, of_z}
use Rattle.std.specs.Prelude.{ℤ, pos, negsuc, ◌+ℤ◌, ◌*ℤ◌, int_le, int_lt, unsigned_abs}
use Rattle.std.proofs.lemmas.Int.{ints, to_z-of_z}
use mir.Syntax.{w64, w128}
use mir.Val.{SFits}

pub fits_small : (z : ℤ) → unsigned_abs z ≤ 2 ^ 62 → SFits w64 z
fits_small (pos n) h = record { sfits = omega arith }
fits_small (negsuc n) h = record { sfits = omega arith }

pub fits_light : (w : ℕ) → w ≤ 88761 → SFits w64 (pos w)
fits_light w h = record { sfits = omega arith }

product_read : (z : ℤ) (w : ℕ) → SFits w64 z → w ≤ 88761 → to_z w64 (of_z w64 z) *ℤ to_z w64 w ≡ z *ℤ pos w
product_read z w f h =
    ap (λ (a : ℤ). a *ℤ to_z w64 w) (to_z-of_z w64 z f)
    ∙ ap (λ (a : ℤ). z *ℤ a) (to_z-of_z w64 (pos w) (fits_light w h))

pub product_fits : (z : ℤ) (w : ℕ) → SFits w64 z → w ≤ 88761 → unsigned_abs (z *ℤ pos w) ≤ 2 ^ 62 → SFits w64 (to_z w64 (of_z w64 z) *ℤ to_z w64 w)
product_fits z w f h k = subst (λ (a : ℤ). SFits w64 a) (sym (product_read z w f h)) (fits_small (z *ℤ pos w) k)

sum_read : (a b : ℤ) → SFits w64 a → SFits w64 b → to_z w64 (of_z w64 a) +ℤ to_z w64 (of_z w64 b) ≡ a +ℤ b
sum_read a b f g =
    ap (λ (z : ℤ). z +ℤ to_z w64 (of_z w64 b)) (to_z-of_z w64 a f) ∙ ap (λ (z : ℤ). a +ℤ z) (to_z-of_z w64 b g)

pub sum_fits : (a b : ℤ) → SFits w64 a → SFits w64 b → unsigned_abs (a +ℤ b) ≤ 2 ^ 62 → SFits w64 (to_z w64 (of_z w64 a) +ℤ to_z w64 (of_z w64 b))
sum_fits a b f g h = subst (λ (z : ℤ). SFits w64 z) (sym (sum_read a b f g)) (fits_small (a +ℤ b) h)

pub sum_kept : (a b : ℤ) → SFits w64 a → SFits w64 b → unsigned_abs (a +ℤ b) ≤ 2 ^ 62
    → to_z w64 (of_z w64 (to_z w64 (of_z w64 a) +ℤ to_z w64 (of_z w64 b))) ≡ a +ℤ b
sum_kept a b f g h =
    ap (λ (z : ℤ). to_z w64 (of_z w64 z)) (sum_read a b f g) ∙ to_z-of_z w64 (a +ℤ b) (fits_small (a +ℤ b) h)

-- a comparison of two numbers, of which the second is said to be another
pub compared : (a b z : ℤ) (t : Bool) → SFits w64 a → SFits w64 b → b ≡ z → int_le (to_z w64 (of_z w64 a)) (to_z w64 (of_z w64 b)) ≡ t → int_le a z ≡ t
compared a b z t f g h k =
    ap (λ (x : ℤ). int_le x z) (sym (to_z-of_z w64 a f))
    ∙ ap (λ (x : ℤ). int_le (to_z w64 (of_z w64 a)) x) (sym (to_z-of_z w64 b g ∙ h)) ∙ k

-- a wide product
pub moment_read : (v r : ℤ) (w : ℕ) → SFits w64 v → SFits w128 r → r ≡ to_z w64 (of_z w64 v) *ℤ pos w → to_z w128 (of_z w128 r) ≡ v *ℤ pos w
moment_read v r w f g h = to_z-of_z w128 r g ∙ h ∙ ap (λ (z : ℤ). z *ℤ pos w) (to_z-of_z w64 v f)

below_next : (z m : ℤ) → int_lt z (m +ℤ pos 1) ≡ int_le z m
below_next z m = grind (arith, ints)

-- a wide product is at most a number where it is below the next
pub moment_compared : (v r m next : ℤ) (w : ℕ) → SFits w64 v → SFits w128 r → SFits w128 next → r ≡ to_z w64 (of_z w64 v) *ℤ pos w → next ≡ m +ℤ pos 1
    → int_lt (to_z w128 (of_z w128 r)) (to_z w128 (of_z w128 next)) ≡ int_le (v *ℤ pos w) m
moment_compared v r m next w f g i h k =
    ap (λ (z : ℤ). int_lt z (to_z w128 (of_z w128 next))) (moment_read v r w f g h)
    ∙ ap (λ (z : ℤ). int_lt (v *ℤ pos w) z) (to_z-of_z w128 next i ∙ k) ∙ below_next (v *ℤ pos w) m
