-- Sums of the setbacks of those that were seen.
use Rattle.std.proofs.Common.{◌≡◌, ℕ, ◌+◌, ◌≤◌, Bool, true, false, cond, List, [], ◌∷◌, refl, subst, arith}
use Rattle.std.specs.Prelude.{◌==◌}
use Rattle.eevdf_dozes.specs.{Stretches.Watch, Shares.times_in}
use Rattle.eevdf_dozes.specs.Bounds.{Bounds}
use Rattle.eevdf_dozes.specs.Ahead.{setback, sum_setbacks}
use Rattle.eevdf_ops.proofs.MapCounts.{equal}

abbrev pub sum_seen : (ℕ → ℕ) → (ℕ → Bool) → List ℕ → ℕ
sum_seen cost seen [] = 0
sum_seen cost seen (t ∷ ts) = cond (seen t) (cost t) 0 + sum_seen cost seen ts

-- who was seen once is seen from then on
abbrev pub AreSeenStill : (ℕ → Bool) → (ℕ → Bool) → Type 0
AreSeenStill seen now = (t : ℕ) → seen t ≡ true → now t ≡ true

one_grows : (x : ℕ) (a b : Bool) → (a ≡ true → b ≡ true) → cond a x 0 ≤ cond b x 0
one_grows x false b h = omega arith
one_grows x true true h = omega arith
one_grows x true false h = let is : false ≡ true = h refl in cc

pub both_grow : (a b m n : ℕ) → a ≤ b → m ≤ n → a + m ≤ b + n
both_grow a b m n h k = omega (arith, h, k)

pub sum_grows : (cost : ℕ → ℕ) (seen now : ℕ → Bool) (ts : List ℕ) → AreSeenStill seen now → sum_seen cost seen ts ≤ sum_seen cost now ts
sum_grows cost seen now [] h = omega arith
sum_grows cost seen now (t ∷ ts) h =
    both_grow (cond (seen t) (cost t) 0) (cond (now t) (cost t) 0) (sum_seen cost seen ts) (sum_seen cost now ts)
    (one_grows (cost t) (seen t) (now t) (h t)) (sum_grows cost seen now ts h)

one_added : (x : ℕ) (a b : Bool) → a ≡ false → b ≡ true → cond a x 0 + x ≤ cond b x 0
one_added x false true h k = omega arith
one_added x true b h k = cc
one_added x false false h k = cc

added_here : (a b m n x : ℕ) → a + x ≤ b → m ≤ n → a + m + x ≤ b + n
added_here a b m n x h k = omega (arith, h, k)

added_later : (a b m n x : ℕ) → a ≤ b → m + x ≤ n → a + m + x ≤ b + n
added_later a b m n x h k = omega (arith, h, k)

not_here : (b : Bool) (n : ℕ) → b ≡ false → 1 ≤ cond b 1 0 + n → 1 ≤ n
not_here false n h k = omega (arith, k)
not_here true n h k = cc

-- one more is seen
pub sum_added : (cost : ℕ → ℕ) (seen now : ℕ → Bool) (t : ℕ) (ts : List ℕ) → AreSeenStill seen now → seen t ≡ false → now t ≡ true
    → 1 ≤ times_in t ts → sum_seen cost seen ts + cost t ≤ sum_seen cost now ts
sum_added cost seen now t [] h not is listed = absurd (omega (arith, listed))
sum_added cost seen now t (u ∷ us) h not is listed =
    by (t == u) refl (sum_added cost seen now t us h not is)
  where
    by : (b : Bool) → (t == u) ≡ b → (1 ≤ times_in t us → sum_seen cost seen us + cost t ≤ sum_seen cost now us)
        → sum_seen cost seen (u ∷ us) + cost t ≤ sum_seen cost now (u ∷ us)
    by true same rest =
        let itself : t ≡ u = equal t u same in
        added_here (cond (seen u) (cost u) 0) (cond (now u) (cost u) 0) (sum_seen cost seen us) (sum_seen cost now us) (cost t)
        (subst (λ (v : ℕ). cond (seen v) (cost v) 0 + cost t ≤ cond (now v) (cost v) 0) itself (one_added (cost t) (seen t) (now t) not is))
        (sum_grows cost seen now us h)
    by false other rest =
        added_later (cond (seen u) (cost u) 0) (cond (now u) (cost u) 0) (sum_seen cost seen us) (sum_seen cost now us) (cost t)
        (one_grows (cost u) (seen u) (now u) (h u))
        (rest (not_here (t == u) (times_in t us) other listed))

pub one_within : (x : ℕ) (b : Bool) → cond b x 0 ≤ x
one_within x true = omega arith
one_within x false = omega arith

-- no more than all
pub seen_of_all : (w : Watch) (b : Bounds) (seen : ℕ → Bool) (ts : List ℕ) → sum_seen (setback w b) seen ts ≤ sum_setbacks w b ts
seen_of_all w b seen [] = omega arith
seen_of_all w b seen (t ∷ ts) =
    both_grow (cond (seen t) (setback w b t) 0) (setback w b t) (sum_seen (setback w b) seen ts) (sum_setbacks w b ts)
    (one_within (setback w b t) (seen t)) (seen_of_all w b seen ts)
