-- A product of two signed numbers of 64 bits in the wider type.
use Rattle.std.proofs.Common.{◌≡◌, ℕ, ◌^◌, ◌<◌, ◌≤◌, ℤ, ◌*ℤ◌, pos, unsigned_abs, FitsSigned, SFits, w64, subst, sym, arith}
use Rattle.std.specs.Int.{w128}
use Rattle.std.proofs.lemmas.Int.{ints, fits_signed_mul}

magnitude : (z : ℤ) → SFits w64 z → unsigned_abs z ≤ 2 ^ 63
magnitude z h = omega (arith, ints)

pub product_fits : (x y z : ℤ) (w : ℕ) → x ≡ z → y ≡ pos w → SFits w64 z → w < 2 ^ 63 → FitsSigned w128 (x *ℤ y)
product_fits x y z w e f h k =
    fits_signed_mul w128 x y (2 ^ 63) (2 ^ 63)
    (subst (λ (n : ℤ). unsigned_abs n ≤ 2 ^ 63) (sym e) (magnitude z h))
    (subst (λ (n : ℤ). unsigned_abs n ≤ 2 ^ 63) (sym f) (omega arith))
    (omega arith)
