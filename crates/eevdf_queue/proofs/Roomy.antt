-- Beside tasks whose virtual time is far within its range any task can be placed.
use Rattle.std.proofs.Common.{◌≡◌, ℕ, ◌+◌, ◌*◌, ◌^◌, ◌≤◌, true, false, cond, Some, None, ap, sym, subst, ◌∙◌, arith}
use Rattle.std.specs.Prelude.{ℤ, pos, ◌+ℤ◌, ◌-ℤ◌, ◌*ℤ◌, unsigned_abs, is_some, ◌&&◌, ◌==◌}
use Rattle.std.proofs.Math.Nat.{mul-le-mul_right}
use Rattle.std.proofs.{lemmas.Int.ints, lemmas.Int.unsigned_abs-mul, lemmas.Bool.Decides.nat_tests}
use Rattle.eevdf_weight.specs.{Limits.is_in_range, Placement.floor_div, Placement.placement_of, Weight.weight_of}
use Rattle.eevdf_weight.proofs.Weighing.{weight_of-greatest}
use Rattle.eevdf_queue.specs.{declared.entry.Entry.Entry, declared.tree.totals.Totals.Totals, State.State, State.Sleeper}
use Rattle.eevdf_queue.specs.{Sums.total_weight, Sums.total_moment, Lag.is_lag}
use Rattle.eevdf_queue.specs.Moves.{request_of, fresh_entry, entry_in_range}
use Rattle.eevdf_queue.specs.Placing.{placement, can_place, IsRoomy}
use Rattle.eevdf_queue.proofs.Bounds.{floor_within, charge_of_small, lag_small, within_range}

stretched_small : (lag : ℤ) (total w : ℕ) → 1 ≤ total → w ≤ 88761 → unsigned_abs lag ≤ 2 ^ 38 → unsigned_abs (lag *ℤ pos (total + w)) ≤ 2 ^ 55 * total
stretched_small lag total w some light h = omega (arith, unsigned_abs-mul lag (pos (total + w)), mul-le-mul_right (total + w) h)

apart_small : (x y : ℤ) → unsigned_abs x ≤ 2 ^ 59 → unsigned_abs y ≤ 2 ^ 55 → unsigned_abs (x -ℤ y) ≤ 2 ^ 59 + 2 ^ 55
apart_small x y h k = omega (arith, ints)

later_small : (x : ℤ) (n : ℕ) → unsigned_abs x ≤ 2 ^ 59 + 2 ^ 55 → n ≤ 2 ^ 40 → unsigned_abs (x +ℤ pos n) ≤ 2 ^ 60
later_small x n h k = omega (arith, ints)

in_room : (e : Entry) → is_in_range e.v ≡ true → is_in_range e.d ≡ true → is_some (entry_in_range e) ≡ true
in_room e h k = ap (λ b. is_some (cond (b && is_in_range e.d) (Some e) None)) h ∙ ap (λ b. is_some (cond b (Some e) None)) k

pub roomy : (q : State) (s : Sleeper) (t : Totals) → t.weight ≡ total_weight q.runnable → t.moment ≡ total_moment q.runnable → IsRoomy t.weight t.moment
    → s.slice ≤ 100000000 → is_lag s.lag s.nice s.slice ≡ true → can_place q s ≡ true
roomy q s t ew em r short limited =
    let some : 1 ≤ total_weight q.runnable = subst (λ (z : ℕ). 1 ≤ z) ew r.some in
    let few : unsigned_abs (total_moment q.runnable) ≤ 2 ^ 59 * total_weight q.runnable =
    subst (λ (z : ℤ). unsigned_abs z ≤ 2 ^ 59 * total_weight q.runnable) em (subst (λ (z : ℕ). unsigned_abs t.moment ≤ 2 ^ 59 * z) ew r.small) in
    let n : (total_weight q.runnable == 0) ≡ false = grind (arith, nat_tests) in
    let time = floor_div (total_moment q.runnable) (total_weight q.runnable) in
    let p : placement q s ≡ placement_of time (total_weight q.runnable) s.lag (weight_of s.nice) =
    ap (λ b. cond b (cond b q.base time) (placement_of (cond b q.base time) (total_weight q.runnable) s.lag (weight_of s.nice))) n in
    let near : unsigned_abs (placement q s) ≤ 2 ^ 59 + 2 ^ 55 =
    subst (λ (z : ℤ). unsigned_abs z ≤ 2 ^ 59 + 2 ^ 55) (sym p)
    (apart_small time (floor_div (s.lag *ℤ pos (total_weight q.runnable + weight_of s.nice)) (total_weight q.runnable))
    (floor_within (2 ^ 59) (total_moment q.runnable) (total_weight q.runnable) some few)
    (floor_within (2 ^ 55) (s.lag *ℤ pos (total_weight q.runnable + weight_of s.nice)) (total_weight q.runnable) some
    (stretched_small s.lag (total_weight q.runnable) (weight_of s.nice) some (weight_of-greatest s.nice) (lag_small s.lag s.nice s.slice short limited)))) in
    in_room (fresh_entry (placement q s) s.nice s.slice)
    (within_range (placement q s) (omega (arith, near)))
    (within_range (placement q s +ℤ pos (request_of s.nice s.slice)) (later_small (placement q s) (request_of s.nice s.slice) near (charge_of_small s.slice (weight_of s.nice) (omega (arith, short)))))
