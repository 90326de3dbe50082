-- How large a lag is that is stretched.
use Rattle.std.proofs.Common.{ℕ, ◌/◌, ◌^◌, ◌≤◌, arith}
use Rattle.std.specs.Prelude.{ℤ, pos, negsuc, ◌*ℤ◌, unsigned_abs}
use Rattle.std.proofs.Math.Nat.{mul-le-mul_left, mul-le-mul_right, div-le_self}
use Rattle.std.proofs.lemmas.Int.{unsigned_abs-mul}
use Rattle.eevdf_weight.specs.Placement.{floor_div}

pub product_small : (lag : ℤ) (w : ℕ) → unsigned_abs lag ≤ 2 ^ 34 → w ≤ 2 ^ 28 → unsigned_abs (lag *ℤ pos w) ≤ 2 ^ 62
product_small lag w h k = omega (arith, unsigned_abs-mul lag (pos w), mul-le-mul_right w h, mul-le-mul_left (2 ^ 34) k)

pub quotient_small : (z : ℤ) (n : ℕ) → 1 ≤ n → unsigned_abs z ≤ 2 ^ 62 → unsigned_abs (floor_div z n) ≤ 2 ^ 62
quotient_small (pos a) n h k = let q : a / n ≤ a = div-le_self a n in omega arith
quotient_small (negsuc a) n h k = let q : a / n ≤ a = div-le_self a n in omega arith
