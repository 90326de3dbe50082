-- A virtual runtime that is answered where it is in range.
use Rattle.std.proofs.Common.{◌≡◌, Bool, true, false, cond, Some, None, refl}
use Rattle.std.specs.Prelude.{ℤ}
use Rattle.eevdf_weight.specs.{Limits.is_in_range, Placement.within_range}

within_by : (b : Bool) (z v : ℤ) → cond b (Some z) None ≡ Some v → z ≡ v
within_by true z v e = cc
within_by false z v e = cc

pub within_is : (z v : ℤ) → within_range z ≡ Some v → z ≡ v
within_is z v e = within_by (is_in_range z) z v e

none_by : (b : Bool) (z : ℤ) → cond b (Some z) None ≡ None → b ≡ false
none_by true z e = cc
none_by false z e = refl

pub beyond_is : (z : ℤ) → within_range z ≡ None → is_in_range z ≡ false
beyond_is z e = none_by (is_in_range z) z e
