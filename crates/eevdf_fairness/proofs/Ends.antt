-- What a task is behind and ahead at the ends of a stretch of turns bounds how far it is off its share.
use Rattle.std.proofs.Common.{◌≡◌, ℕ, ◌+◌, ◌-◌, ◌*◌, ◌≤◌, min, sym, ap, subst, arith}
use Rattle.std.specs.Prelude.{ℤ, pos, ◌+ℤ◌, ◌*ℤ◌, ◌≤ℤ◌}
use Rattle.std.specs.FinMap.{get, len}
use Rattle.std.proofs.{lemmas.Int.ints, Math.Nat.mul-le-mul_left}
use Rattle.eevdf_weight.specs.{Weight.weight_of, Charge.charge_of}
use Rattle.eevdf_queue.specs.{declared.entry.Entry.Entry, Moves.request_of}
use Rattle.eevdf_queue.specs.Sums.{Tasks, total_weight, total_moment}
use Rattle.eevdf_queue.proofs.Scaled.{sum_scaled, scaled_twice, scaled_le}
use Rattle.eevdf_fairness.specs.Fair.{IsFair, turns_of_others, weight_of_others}
use Rattle.eevdf_fairness.specs.Share.{swing, IsShare}
use Rattle.eevdf_fairness.proofs.{Passing.HasPassed, Passing.IsServed, Growing.rounded_down}

-- two sides of an equation, times a number
scaled_sides : (a b : ℤ) (x y n : ℕ) → a +ℤ pos x ≡ b +ℤ pos y → (a *ℤ pos n) +ℤ pos (x * n) ≡ (b *ℤ pos n) +ℤ pos (y * n)
scaled_sides a b x y n h =
    let is : (a +ℤ pos x) *ℤ pos n ≡ (b +ℤ pos y) *ℤ pos n = ap (λ (z : ℤ). z *ℤ pos n) h in
    omega (arith, ints, is, sum_scaled a (pos x) n, sum_scaled b (pos y) n)

scaled_bound : (a b : ℤ) (x n : ℕ) → a ≤ℤ (b +ℤ pos x) → (a *ℤ pos n) ≤ℤ ((b *ℤ pos n) +ℤ pos (x * n))
scaled_bound a b x n h = omega (arith, ints, scaled_le a (b +ℤ pos x) n h, sum_scaled b (pos x) n)

-- the virtual runtime grows from v to u and the moment from S to Z
share_most : (v u S Z : ℤ) (w W s r T R x y : ℕ) → (u *ℤ pos w) +ℤ pos r ≡ (v *ℤ pos w) +ℤ pos s → Z +ℤ pos R ≡ S +ℤ pos T
    → S ≤ℤ ((v *ℤ pos W) +ℤ pos x) → (u *ℤ pos W) ≤ℤ (Z +ℤ pos y) → W * s + w * R ≤ w * T + W * r + w * (y + x)
share_most v u S Z w W s r T R x y runtime moment behind ahead =
    omega (
      arith,
      ints,
      scaled_sides (u *ℤ pos w) (v *ℤ pos w) r s W runtime,
      scaled_sides Z S R T w moment,
      scaled_bound S (v *ℤ pos W) x w behind,
      scaled_bound (u *ℤ pos W) Z y w ahead,
      scaled_twice u w W,
      scaled_twice v w W,
    )

-- from the later end back to the earlier one
share_least : (v u S Z : ℤ) (w W s r T R x y : ℕ) → (u *ℤ pos w) +ℤ pos r ≡ (v *ℤ pos w) +ℤ pos s → Z +ℤ pos R ≡ S +ℤ pos T
    → Z ≤ℤ ((u *ℤ pos W) +ℤ pos x) → (v *ℤ pos W) ≤ℤ (S +ℤ pos y) → w * T + W * r ≤ W * s + w * R + w * (y + x)
share_least v u S Z w W s r T R x y runtime moment behind ahead =
    omega (arith, share_most u v Z S w W r s R T x y (sym runtime) (sym moment) behind ahead)

-- the same by what a task is owed, times its weight: what it is ahead at the other end takes the part `k` off again
owed_most : (v u S Z : ℤ) (w W s r T R x k : ℕ) → (u *ℤ pos w) +ℤ pos r ≡ (v *ℤ pos w) +ℤ pos s → Z +ℤ pos R ≡ S +ℤ pos T
    → ((S *ℤ pos w) +ℤ pos k) ≤ℤ (((v *ℤ pos W) *ℤ pos w) +ℤ pos x) → ((u *ℤ pos W) *ℤ pos w) ≤ℤ ((Z *ℤ pos w) +ℤ pos k)
    → W * s + w * R ≤ w * T + W * r + x
owed_most v u S Z w W s r T R x k runtime moment owed ahead =
    omega (
      arith,
      ints,
      owed,
      ahead,
      scaled_sides (u *ℤ pos w) (v *ℤ pos w) r s W runtime,
      scaled_sides Z S R T w moment,
      scaled_twice u W w,
      scaled_twice v W w,
    )

owed_least : (v u S Z : ℤ) (w W s r T R x k : ℕ) → (u *ℤ pos w) +ℤ pos r ≡ (v *ℤ pos w) +ℤ pos s → Z +ℤ pos R ≡ S +ℤ pos T
    → ((Z *ℤ pos w) +ℤ pos k) ≤ℤ (((u *ℤ pos W) *ℤ pos w) +ℤ pos x) → ((v *ℤ pos W) *ℤ pos w) ≤ℤ ((S *ℤ pos w) +ℤ pos k)
    → w * T + W * r ≤ W * s + w * R + x
owed_least v u S Z w W s r T R x k runtime moment owed ahead =
    omega (arith, owed_most u v Z S w W r s R T x k (sym runtime) (sym moment) owed ahead)

ahead_scaled : (a S : ℤ) (m c w k : ℕ) → a ≤ℤ (S +ℤ pos (m * c)) → c * w ≤ k → (a *ℤ pos w) ≤ℤ ((S *ℤ pos w) +ℤ pos (m * k))
ahead_scaled a S m c w k ahead turn =
    let most : m * (c * w) ≤ m * k = mul-le-mul_left m turn in
    omega (arith, ints, scaled_bound a S (m * c) w ahead, most)

lesser : (a b x y : ℕ) → a ≤ b + x → a ≤ b + y → a ≤ b + min x y
lesser a b x y h k = omega (arith, h, k)

both_ends : (m c d k : ℕ) → m * d + (m * c + k) ≡ m * (c + d) + k
both_ends m c d k = omega arith

-- the bounds at the end, by the numbers of the start
abbrev BehindBy : ℕ → Tasks → Entry → ℕ → ℕ → ℤ → ℕ → Type 0
BehindBy ns tasks f W n nice slice =
    total_moment tasks ≤ℤ ((f.v *ℤ pos W) +ℤ pos ((W - weight_of nice) * request_of nice slice + (n - 1) * (1024 * ns)))

abbrev AheadBy : ℕ → Tasks → Entry → ℕ → ℤ → Type 0
AheadBy ns tasks f W nice = (f.v *ℤ pos W) ≤ℤ (total_moment tasks +ℤ pos ((W - weight_of nice) * charge_of ns (weight_of nice)))

behind_at_end : (ns : ℕ) (tasks : Tasks) (f : Entry) (W n : ℕ) (nice : ℤ) (slice : ℕ) → total_weight tasks ≡ W → len tasks ≡ n → f.nice ≡ nice → f.slice ≡ slice
    → IsFair ns tasks f → BehindBy ns tasks f W n nice slice
behind_at_end ns tasks f W n nice slice weighs count same_nice same_slice h =
    subst (λ (x : ℕ). BehindBy ns tasks f x n nice slice) weighs
    (subst (λ (x : ℕ). BehindBy ns tasks f (total_weight tasks) x nice slice) count
    (subst (λ (x : ℤ). BehindBy ns tasks f (total_weight tasks) (len tasks) x slice) same_nice
    (subst (λ (x : ℕ). BehindBy ns tasks f (total_weight tasks) (len tasks) f.nice x) same_slice h.behind)))

ahead_at_end : (ns : ℕ) (tasks : Tasks) (f : Entry) (W : ℕ) (nice : ℤ) → total_weight tasks ≡ W → f.nice ≡ nice → IsFair ns tasks f → AheadBy ns tasks f W nice
ahead_at_end ns tasks f W nice weighs same_nice h =
    subst (λ (x : ℕ). AheadBy ns tasks f x nice) weighs (subst (λ (x : ℤ). AheadBy ns tasks f (total_weight tasks) x) same_nice h.ahead)

abbrev OwedBy : ℕ → Tasks → Entry → ℕ → ℕ → ℤ → Type 0
OwedBy ns tasks f W n nice =
    ((total_moment tasks *ℤ pos (weight_of nice)) +ℤ pos ((W - weight_of nice) * (1024 * ns)))
    ≤ℤ (((f.v *ℤ pos W) *ℤ pos (weight_of nice)) +ℤ pos (W * ((n - 1) * (1024 * ns))))

owed_at_end : (ns : ℕ) (tasks : Tasks) (f : Entry) (W n : ℕ) (nice : ℤ) → total_weight tasks ≡ W → len tasks ≡ n → f.nice ≡ nice → IsFair ns tasks f → OwedBy ns tasks f W n nice
owed_at_end ns tasks f W n nice weighs count same_nice h =
    subst (λ (x : ℕ). OwedBy ns tasks f x n nice) weighs
    (subst (λ (x : ℕ). OwedBy ns tasks f (total_weight tasks) x nice) count
    (subst (λ (x : ℤ). OwedBy ns tasks f (total_weight tasks) (len tasks) x) same_nice h.owed))

-- ---- both ends together
module _ (ns : ℕ) (tasks after : Tasks) (t : ℕ) (e : Entry) (T R n s r k : ℕ) (served : IsServed e s r k (get after t))
    (passed : HasPassed t tasks after T R n s r k) (start : IsFair ns tasks e) (end : IsFair ns after served.entry) where
  sums : weight_of_others tasks e * charge_of ns (weight_of e.nice) + (weight_of_others tasks e * request_of e.nice e.slice + turns_of_others ns tasks)
      ≡ weight_of_others tasks e * (request_of e.nice e.slice + charge_of ns (weight_of e.nice)) + turns_of_others ns tasks
  sums = both_ends (weight_of_others tasks e) (request_of e.nice e.slice) (charge_of ns (weight_of e.nice)) (turns_of_others ns tasks)

  ended : AheadBy ns after served.entry (total_weight tasks) e.nice
  ended = ahead_at_end ns after served.entry (total_weight tasks) e.nice passed.weight served.same_nice end

  most_by_slice : total_weight tasks * (1024 * s) + weight_of e.nice * R
      ≤ weight_of e.nice * (1024 * T) + total_weight tasks * r
      + weight_of e.nice * (weight_of_others tasks e * (request_of e.nice e.slice + charge_of ns (weight_of e.nice)) + turns_of_others ns tasks)
  most_by_slice =
      subst (λ (x : ℕ). total_weight tasks * (1024 * s) + weight_of e.nice * R ≤ weight_of e.nice * (1024 * T) + total_weight tasks * r + weight_of e.nice * x) sums
      (share_most e.v served.entry.v (total_moment tasks) (total_moment after) (weight_of e.nice) (total_weight tasks) (1024 * s) r (1024 * T) R
      (weight_of_others tasks e * request_of e.nice e.slice + turns_of_others ns tasks) (weight_of_others tasks e * charge_of ns (weight_of e.nice))
      served.runtime passed.moment start.behind ended)

  least_by_slice : weight_of e.nice * (1024 * T) + total_weight tasks * r
      ≤ total_weight tasks * (1024 * s) + weight_of e.nice * R
      + weight_of e.nice * (weight_of_others tasks e * (request_of e.nice e.slice + charge_of ns (weight_of e.nice)) + turns_of_others ns tasks)
  least_by_slice =
      subst (λ (x : ℕ). weight_of e.nice * (1024 * T) + total_weight tasks * r ≤ total_weight tasks * (1024 * s) + weight_of e.nice * R + weight_of e.nice * x) sums
      (share_least e.v served.entry.v (total_moment tasks) (total_moment after) (weight_of e.nice) (total_weight tasks) (1024 * s) r (1024 * T) R
      (weight_of_others tasks e * request_of e.nice e.slice + turns_of_others ns tasks) (weight_of_others tasks e * charge_of ns (weight_of e.nice))
      served.runtime passed.moment
      (behind_at_end ns after served.entry (total_weight tasks) (len tasks) e.nice e.slice passed.weight passed.count served.same_nice served.same_slice end) start.ahead)

  most_by_turns : total_weight tasks * (1024 * s) + weight_of e.nice * R
      ≤ weight_of e.nice * (1024 * T) + total_weight tasks * r + total_weight tasks * turns_of_others ns tasks
  most_by_turns =
      owed_most e.v served.entry.v (total_moment tasks) (total_moment after) (weight_of e.nice) (total_weight tasks) (1024 * s) r (1024 * T) R
      (total_weight tasks * turns_of_others ns tasks) (weight_of_others tasks e * (1024 * ns)) served.runtime passed.moment start.owed
      (ahead_scaled (served.entry.v *ℤ pos (total_weight tasks)) (total_moment after) (weight_of_others tasks e) (charge_of ns (weight_of e.nice)) (weight_of e.nice) (1024 * ns)
      ended (rounded_down ns (weight_of e.nice)))

  least_by_turns : weight_of e.nice * (1024 * T) + total_weight tasks * r
      ≤ total_weight tasks * (1024 * s) + weight_of e.nice * R + total_weight tasks * turns_of_others ns tasks
  least_by_turns =
      owed_least e.v served.entry.v (total_moment tasks) (total_moment after) (weight_of e.nice) (total_weight tasks) (1024 * s) r (1024 * T) R
      (total_weight tasks * turns_of_others ns tasks) (weight_of_others tasks e * (1024 * ns)) served.runtime passed.moment
      (owed_at_end ns after served.entry (total_weight tasks) (len tasks) e.nice passed.weight passed.count served.same_nice end)
      (ahead_scaled (e.v *ℤ pos (total_weight tasks)) (total_moment tasks) (weight_of_others tasks e) (charge_of ns (weight_of e.nice)) (weight_of e.nice) (1024 * ns)
      start.ahead (rounded_down ns (weight_of e.nice)))

  pub share_by_ends : IsShare (weight_of e.nice) (total_weight tasks) (swing ns tasks e) T R s r
  share_by_ends = record {
    at_most = lesser (total_weight tasks * (1024 * s) + weight_of e.nice * R) (weight_of e.nice * (1024 * T) + total_weight tasks * r)
        (weight_of e.nice * (weight_of_others tasks e * (request_of e.nice e.slice + charge_of ns (weight_of e.nice)) + turns_of_others ns tasks))
        (total_weight tasks * turns_of_others ns tasks) most_by_slice most_by_turns;
    at_least = lesser (weight_of e.nice * (1024 * T) + total_weight tasks * r) (total_weight tasks * (1024 * s) + weight_of e.nice * R)
        (weight_of e.nice * (weight_of_others tasks e * (request_of e.nice e.slice + charge_of ns (weight_of e.nice)) + turns_of_others ns tasks))
        (total_weight tasks * turns_of_others ns tasks) least_by_slice least_by_turns;
  }
