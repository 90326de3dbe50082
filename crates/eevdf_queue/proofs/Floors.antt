-- Quotients rounded down.
use Rattle.std.proofs.Common.{◌≡◌, ℕ, ◌≤◌, Bool, true, false, refl, arith}
use Rattle.std.specs.Prelude.{ℤ, pos, negsuc, ◌+ℤ◌, ◌-ℤ◌, ◌*ℤ◌, ◌≤ℤ◌, ◌<ℤ◌, int_le}
use Rattle.std.proofs.lemmas.Int.{ints}
use Rattle.eevdf_weight.specs.Placement.{floor_div}
use Rattle.eevdf_queue.proofs.Scaled.{sum_scaled, scaled_le}

pub not_above : (z : ℤ) (n : ℕ) → 1 ≤ n → (floor_div z n *ℤ pos n) ≤ℤ z
not_above (pos a) n h = omega (arith, ints)
not_above (negsuc a) n h = omega (arith, ints)

pub below_next : (z : ℤ) (n : ℕ) → 1 ≤ n → z <ℤ ((floor_div z n *ℤ pos n) +ℤ pos n)
below_next (pos a) n h = omega (arith, ints)
below_next (negsuc a) n h = omega (arith, ints)

pub no_more : (a c z : ℤ) (n : ℕ) → (a *ℤ pos n) ≤ℤ z → z <ℤ ((c *ℤ pos n) +ℤ pos n) → a ≤ℤ c
no_more a c z n h k =
    by (int_le a c) refl
  where
    by : (b : Bool) → int_le a c ≡ b → a ≤ℤ c
    by true e = omega (arith, ints, e)
    by false e = absurd (let over : (c +ℤ pos 1) ≤ℤ a = omega (arith, ints, e) in omega (arith, ints, h, k, scaled_le (c +ℤ pos 1) a n over, sum_scaled c (pos 1) n))

-- a multiple of the divisor less
pub floor_lowered : (z by : ℤ) (n : ℕ) → 1 ≤ n → floor_div (z -ℤ (by *ℤ pos n)) n ≡ floor_div z n -ℤ by
floor_lowered z by n h =
    let a : ℤ = floor_div z n in
    let b : ℤ = floor_div (z -ℤ (by *ℤ pos n)) n in
    let lower : (b +ℤ by) ≤ℤ a = no_more (b +ℤ by) a z n (omega (arith, ints, not_above (z -ℤ (by *ℤ pos n)) n h, sum_scaled b by n)) (below_next z n h) in
    let upper : a ≤ℤ (b +ℤ by) = no_more a (b +ℤ by) z n (not_above z n h) (omega (arith, ints, below_next (z -ℤ (by *ℤ pos n)) n h, sum_scaled b by n)) in
    omega (arith, ints, lower, upper)
