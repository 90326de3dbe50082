-- What a task that comes near a deadline leaves of its bound.
use Rattle.std.proofs.Common.{◌≡◌, ◌^◌, ◌⊎◌, Bool, true, false, cond, refl, sym, ap, ◌∙◌, inl, inr, arith}
use Rattle.std.specs.Prelude.{ℤ, pos, negsuc, neg_ℤ, ◌+ℤ◌, ◌-ℤ◌, ◌≤ℤ◌, int_le, int_lt}
use Rattle.std.specs.Int.{int_max}
use Rattle.std.proofs.{lemmas.Int.ints, lemmas.Int.clamps}
use Rattle.eevdf_fair_queue.specs.{declared.bounds.Bounds.Bounds, Bounds.held, Bounds.reached, Bounds.advanced_where, Bounds.adopted, Bounds.late_by}
use Rattle.eevdf_fair_queue.specs.{Fair.IsNear, Lateness.NearArrivalsKeepBounds, Lateness.ArrivalsKeepBounds}

-- a number that isn't above another one, and that 64 bits hold from above
not_above : (longest z : ℤ) → pos 0 ≤ℤ longest → z ≤ℤ longest → z ≤ℤ pos (2 ^ 61) → int_max longest (held z) ≡ longest
not_above longest (pos n) some h small = omega (arith, ints, clamps, some, h, small)
not_above longest (negsuc n) some h small = omega (arith, ints, clamps, some, h)

module _ (front longest v d : ℤ) (some : pos 0 ≤ℤ longest) (small : v ≤ℤ pos (2 ^ 60)) (low : neg_ℤ (pos (2 ^ 60)) ≤ℤ d) where
  behind : v ≤ℤ front → int_max longest (held (int_max front v -ℤ d)) ≡ int_max longest (held (front -ℤ d))
  behind h = ap (λ (z : ℤ). int_max longest (held (z -ℤ d))) (let same : int_max front v ≡ front = omega (arith, ints, clamps, h) in same)

  past : (b : Bool) → int_le v front ≡ b → v ≤ℤ (d +ℤ longest) → int_max longest (held (int_max front v -ℤ d)) ≡ int_max longest (held (front -ℤ d))
  past true is h = behind (omega (arith, ints, is))
  past false is h =
      not_above longest (int_max front v -ℤ d) some (omega (arith, ints, clamps, is, h)) (omega (arith, ints, clamps, is, small, low))
      ∙ sym (not_above longest (front -ℤ d) some (omega (arith, ints, is, h)) (omega (arith, ints, is, small, low)))

  near : (v ≤ℤ front) ⊎ (v ≤ℤ (d +ℤ longest)) → int_max longest (held (int_max front v -ℤ d)) ≡ int_max longest (held (front -ℤ d))
  near (inl h) = behind h
  near (inr h) = past (int_le v front) refl h

pub not_before : (a b : ℤ) → b ≤ℤ a → int_lt a b ≡ false
not_before a b h = grind (arith, ints)

-- whether a turn is known says nothing of how late a request is
unpicked : (b : Bounds) (d : ℤ) (c : Bool) → late_by (adopted b c) d ≡ late_by b d
unpicked b d true = refl
unpicked b d false = refl

pub near_arrivals_keep_bounds : NearArrivalsKeepBounds
near_arrivals_keep_bounds b m e d some small low due h =
    ap (λ (c : Bool). late_by (adopted (advanced_where c (reached b e.v)) (int_lt m.v e.v)) d) (not_before e.d m.d due)
    ∙ unpicked (reached b e.v) d (int_lt m.v e.v) ∙ by (int_lt b.furthest e.v)
  where
    by : (c : Bool) → late_by (cond c (record b { front = int_max b.front e.v; furthest = e.v }) b) d ≡ late_by b d
    by true = near b.front b.longest e.v d some small low h
    by false = refl

-- ---- who comes no further than the furthest
no_more : (longest z : ℤ) → pos 0 ≤ℤ longest → z ≤ℤ longest → held z ≤ℤ longest
no_more longest (pos n) some h = omega (arith, ints, clamps, some, h)
no_more longest (negsuc n) some h = omega (arith, ints, clamps, some, h)

within_longest : (front furthest longest d : ℤ) → pos 0 ≤ℤ longest → furthest ≤ℤ (d +ℤ longest)
    → int_max longest (held (int_max front furthest -ℤ d)) ≡ int_max longest (held (front -ℤ d))
within_longest front furthest longest d some h =
    by (int_le furthest front) refl
  where
    by : (c : Bool) → int_le furthest front ≡ c → int_max longest (held (int_max front furthest -ℤ d)) ≡ int_max longest (held (front -ℤ d))
    by true is = ap (λ (z : ℤ). int_max longest (held (z -ℤ d))) (let same : int_max front furthest ≡ front = omega (arith, ints, clamps, is) in same)
    by false is = none_more (int_max front furthest -ℤ d) (front -ℤ d) (omega (arith, ints, clamps, is, h)) (omega (arith, ints, clamps, is, h))
      where
        none_more : (y z : ℤ) → y ≤ℤ longest → z ≤ℤ longest → int_max longest (held y) ≡ int_max longest (held z)
        none_more y z k l = let i : held y ≤ℤ longest = no_more longest y some k in let j : held z ≤ℤ longest = no_more longest z some l in omega (arith, ints, clamps, i, j)

advanced_near : (b : Bounds) (d : ℤ) → pos 0 ≤ℤ b.longest → IsNear b b.furthest d → (c : Bool) → late_by (advanced_where c b) d ≡ late_by b d
advanced_near b d some h false = refl
advanced_near b d some (inl n) true =
    ap (λ (z : ℤ). int_max b.longest (held (z -ℤ d))) (let same : int_max b.front b.furthest ≡ b.front = omega (arith, ints, clamps, n) in same)
advanced_near b d some (inr n) true = within_longest b.front b.furthest b.longest d some n

pub arrivals_keep_bounds : ArrivalsKeepBounds
arrivals_keep_bounds q b task f fair here m e behind =
    ap (λ (c : Bool). late_by (adopted (advanced_where (int_lt e.d m.d) (cond c (record b { front = int_max b.front e.v; furthest = e.v }) b)) (int_lt m.v e.v)) f.d)
    (not_before b.furthest e.v behind)
    ∙ unpicked (advanced_where (int_lt e.d m.d) b) f.d (int_lt m.v e.v) ∙ advanced_near b f.d fair.longest (fair.near task f here) (int_lt e.d m.d)
