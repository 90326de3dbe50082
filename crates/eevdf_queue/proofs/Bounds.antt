-- How large the sums over tasks can be.
use Rattle.std.proofs.Common.{◌≡◌, ℕ, suc, List, [], ◌∷◌, length, ◌+◌, ◌*◌, ◌/◌, ◌^◌, ◌≤◌, true, arith}
use Rattle.std.specs.Prelude.{ℤ, pos, negsuc, ◌+ℤ◌, ◌*ℤ◌, unsigned_abs}
use Rattle.std.proofs.Math.Nat.{mul-le-mul_right, div-le_self, div-lt_iff_lt-mul, div-le_of_le-mul}
use Rattle.std.proofs.lemmas.Int.{ints, clamps, unsigned_abs-mul}
use Rattle.std.proofs.lemmas.Bool.Decides.{nat_tests}
use Rattle.eevdf_weight.specs.{Limits.is_in_range, Weight.weight_of, Charge.charge_of, Placement.floor_div}
use Rattle.eevdf_weight.proofs.Weighing.{weight_of-greatest}
use Rattle.eevdf_queue.specs.{declared.entry.Entry.Entry, declared.task.Task.Task, Sums.sum_weights, Sums.sum_moments, Lag.cut}
use Rattle.eevdf_queue.specs.{Lag.is_lag, Moves.is_entry_in_range, TaskLists.entries_of, TaskLists.AreRunnable}

pub within : (v : ℤ) → is_in_range v ≡ true → unsigned_abs v ≤ 2 ^ 60
within v h = grind (arith, nat_tests)

pub scaled_near : (v : ℤ) (w : ℕ) → unsigned_abs v ≤ 2 ^ 63 → unsigned_abs (v *ℤ pos w) ≤ 2 ^ 63 * w
scaled_near v w h = omega (arith, unsigned_abs-mul v (pos w), mul-le-mul_right w h)

pub scaled_small : (v : ℤ) (w : ℕ) → is_in_range v ≡ true → unsigned_abs (v *ℤ pos w) ≤ 2 ^ 60 * w
scaled_small v w h =
    let k : unsigned_abs v ≤ 2 ^ 60 = within v h in
    omega (arith, unsigned_abs-mul v (pos w), mul-le-mul_right w k)

heavier : (a w s n : ℕ) → w ≤ 88761 → s ≤ 88761 * n → w + s ≤ 88761 * suc n
heavier a w s n h k = omega arith

pub sum_weights_small : (ts : List Task) → sum_weights (entries_of ts) ≤ 88761 * length ts
sum_weights_small [] = omega arith
sum_weights_small (t ∷ ts) =
    let a = weight_of-greatest t.entry.nice in let b = sum_weights_small ts in omega arith

added_small : (a b : ℤ) (m n : ℕ) → unsigned_abs a ≤ 2 ^ 60 * m → unsigned_abs b ≤ 2 ^ 60 * n → unsigned_abs (a +ℤ b) ≤ 2 ^ 60 * (m + n)
added_small a b m n h k = omega (arith, ints)

pub range_v : (e : Entry) → is_entry_in_range e ≡ true → is_in_range e.v ≡ true
range_v e h = grind (arith, nat_tests)

pub range_d : (e : Entry) → is_entry_in_range e ≡ true → is_in_range e.d ≡ true
range_d e h = grind (arith, nat_tests)

-- another deadline in range
pub range_with : (e : Entry) (d : ℤ) → is_entry_in_range e ≡ true → is_in_range d ≡ true → is_entry_in_range (record e { d = d }) ≡ true
range_with e d h k = grind (arith, nat_tests)

pub sum_moments_small : (ts : List Task) → AreRunnable ts → unsigned_abs (sum_moments (entries_of ts)) ≤ 2 ^ 60 * sum_weights (entries_of ts)
sum_moments_small [] h = omega (arith, ints)
sum_moments_small (t ∷ ts) h =
    added_small (t.entry.v *ℤ pos (weight_of t.entry.nice)) (sum_moments (entries_of ts)) (weight_of t.entry.nice) (sum_weights (entries_of ts))
    (scaled_small t.entry.v (weight_of t.entry.nice) (range_v t.entry h.2)) (sum_moments_small ts h.3)

pub charge_of_small : (ns w : ℕ) → ns ≤ 1000000000 → charge_of ns w ≤ 2 ^ 40
unfolding charge_of
charge_of_small ns w h = let k : ns * 1024 / w ≤ ns * 1024 = div-le_self (ns * 1024) w in omega arith

-- a quotient rounded down is no larger than what bounds the fraction
pub floor_within : (b : ℕ) (z : ℤ) (w : ℕ) → 1 ≤ w → unsigned_abs z ≤ b * w → unsigned_abs (floor_div z w) ≤ b
floor_within b (pos a) w h k = div-le_of_le-mul w (omega arith)
floor_within b (negsuc a) w h k = (div-lt_iff_lt-mul h).1 k

pub floor_small : (z : ℤ) (w : ℕ) → 1 ≤ w → unsigned_abs z ≤ 2 ^ 60 * w → unsigned_abs (floor_div z w) ≤ 2 ^ 60
floor_small = floor_within (2 ^ 60)

pub within_range : (z : ℤ) → unsigned_abs z ≤ 2 ^ 60 → is_in_range z ≡ true
within_range z h = grind (arith, nat_tests)

pub cut_small : (z : ℤ) (limit : ℕ) → unsigned_abs (cut z limit) ≤ limit
cut_small z limit = omega (arith, ints, clamps)

-- what may be kept as a lag
pub lag_small : (lag nice : ℤ) (slice : ℕ) → slice ≤ 100000000 → is_lag lag nice slice ≡ true → unsigned_abs lag ≤ 2 ^ 38
unfolding charge_of
lag_small lag nice slice h k =
    let l : unsigned_abs lag ≤ charge_of (2 * slice) (weight_of nice) = grind (arith, nat_tests) in
    let q : 2 * slice * 1024 / weight_of nice ≤ 2 * slice * 1024 = div-le_self (2 * slice * 1024) (weight_of nice) in
    omega arith
