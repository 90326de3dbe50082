-- The virtual runtime at which a task that dozes wakes.
use Rattle.std.proofs.Common.{◌≡◌, ◌==◌, ℕ, ◌+◌, ◌^◌, ◌≤◌, Bool, true, false, ◌&&◌, cond, Some, None, refl, sym, ap, ◌∙◌, arith}
use Rattle.std.specs.Prelude.{ℤ, pos, negsuc, ◌+ℤ◌, ◌-ℤ◌, ◌*ℤ◌, ◌≤ℤ◌, ◌<ℤ◌, int_le}
use Rattle.std.specs.Int.{int_max}
use Rattle.std.proofs.lemmas.Int.{ints, clamps}
use Rattle.std.proofs.lemmas.Bool.Decides.{nat_tests}
use Rattle.eevdf_weight.specs.{Limits.is_in_range, Weight.weight_of, Placement.floor_div, Placement.placement_of}
use Rattle.eevdf_queue.specs.{Moves.fresh_entry, Moves.entry_in_range, Placing.runtime_of}
use Rattle.eevdf_queue.proofs.{Floors.not_above, Floors.below_next, Floors.no_more, Scaled.scaled_le}

-- ---- in a queue that is lower by a number, whose shift is greater by it
pub later_lower : (place shift v by : ℤ) → int_max (place -ℤ (shift +ℤ by)) (v -ℤ by) ≡ int_max (place -ℤ shift) v -ℤ by
later_lower place shift v by = omega (arith, ints, clamps)

pub further_lower : (place shift lower by : ℤ) → lower ≡ shift +ℤ by → place -ℤ lower ≡ (place -ℤ shift) -ℤ by
further_lower place shift lower by e = omega (arith, ints, e)

pub same_place : (start shift lower by : ℤ) → lower ≡ shift +ℤ by → (start -ℤ by) +ℤ lower ≡ start +ℤ shift
same_place start shift lower by e = omega (arith, ints, e)

-- ---- who owes is placed after the virtual time, and who is owed before it
debt : (lag : ℤ) (m n : ℕ) → 1 ≤ n → lag <ℤ pos 0 → floor_div (lag *ℤ pos m) n ≤ℤ pos 0
debt lag m n h k =
    let less : (lag *ℤ pos m) ≤ℤ (pos 0 *ℤ pos m) = scaled_le lag (pos 0) m (omega (arith, ints, k)) in
    no_more (floor_div (lag *ℤ pos m) n) (pos 0) (lag *ℤ pos m) n (not_above (lag *ℤ pos m) n h) (omega (arith, ints, less, h))

no_debt : (lag : ℤ) (m n : ℕ) → 1 ≤ n → pos 0 ≤ℤ lag → pos 0 ≤ℤ floor_div (lag *ℤ pos m) n
no_debt lag m n h k =
    let more : (pos 0 *ℤ pos m) ≤ℤ (lag *ℤ pos m) = scaled_le (pos 0) lag m k in
    no_more (pos 0) (floor_div (lag *ℤ pos m) n) (lag *ℤ pos m) n (omega (arith, ints, more)) (below_next (lag *ℤ pos m) n h)

some_are : (n : ℕ) → (n == 0) ≡ false → 1 ≤ n
some_are n h = grind (arith, nat_tests)

after_by : (time lag nice : ℤ) (total : ℕ) (b : Bool) → (total == 0) ≡ b → lag <ℤ pos 0 → time ≤ℤ cond b time (placement_of time total lag (weight_of nice))
after_by time lag nice total true e h = omega (arith, ints)
after_by time lag nice total false e h = omega (arith, ints, debt lag (total + weight_of nice) total (some_are total e) h)

before_by : (time lag nice : ℤ) (total : ℕ) (b : Bool) → (total == 0) ≡ b → pos 0 ≤ℤ lag → cond b time (placement_of time total lag (weight_of nice)) ≤ℤ time
before_by time lag nice total true e h = omega (arith, ints)
before_by time lag nice total false e h = omega (arith, ints, no_debt lag (total + weight_of nice) total (some_are total e) h)

-- ---- what is beyond the range
after_all : (z time : ℤ) → is_in_range time ≡ true → is_in_range z ≡ false → time ≤ℤ z → pos (2 ^ 60) <ℤ z
after_all (pos a) time h k l = grind (arith, nat_tests)
after_all (negsuc a) (pos t) h k l = omega (arith, ints, l)
after_all (negsuc a) (negsuc t) h k l = grind (arith, nat_tests)

before_all : (z time : ℤ) → is_in_range time ≡ true → is_in_range z ≡ false → z ≤ℤ time → z ≤ℤ negsuc (2 ^ 60)
before_all (negsuc a) time h k l = let over : 2 ^ 60 ≤ a = grind (arith, nat_tests) in omega (arith, ints, over)
before_all (pos a) (negsuc t) h k l = omega (arith, ints, l)
before_all (pos a) (pos t) h k l = absurd (grind (arith, nat_tests))

stays_after : (z m : ℤ) → pos (2 ^ 60) <ℤ z → z ≤ℤ m → is_in_range m ≡ false
stays_after z (pos a) h l = let over : 2 ^ 60 ≤ a = omega (arith, ints, h, l) in let past : pos (2 ^ 60) <ℤ pos a = omega (arith, ints, h, l) in grind (arith, nat_tests)
stays_after z (negsuc a) h l = absurd (omega (arith, ints, h, l))

stays_before : (m : ℤ) → m ≤ℤ negsuc (2 ^ 60) → is_in_range m ≡ false
stays_before (pos a) h = absurd (omega (arith, ints, h))
stays_before (negsuc a) h = let over : 2 ^ 60 ≤ a = omega (arith, ints, h) in grind (arith, nat_tests)

out : (v nice : ℤ) (slice : ℕ) → is_in_range v ≡ false → entry_in_range (fresh_entry v nice slice) ≡ None
out v nice slice h = ap (λ (b : Bool). cond (b && is_in_range (fresh_entry v nice slice).d) (Some (fresh_entry v nice slice)) None) h

-- ---- where the placement is beyond the range
module _ (place time : ℤ) (total : ℕ) (lag nice : ℤ) (slice : ℕ) (timed : is_in_range time ≡ true) (beyond : is_in_range (runtime_of time total lag nice) ≡ false) where
  abbrev v : ℤ
  v = runtime_of time total lag nice

  -- who owes can't be placed
  pub past_the_range : lag <ℤ pos 0 → entry_in_range (fresh_entry (int_max place v) nice slice) ≡ None
  past_the_range owes =
      let after = after_all v time timed beyond (after_by time lag nice total (total == 0) refl owes) in
      out (int_max place v) nice slice (stays_after v (int_max place v) after (omega (arith, ints, clamps)))

  -- and who is owed is placed by its place
  pub by_the_place : pos 0 ≤ℤ lag → entry_in_range (fresh_entry place nice slice) ≡ entry_in_range (fresh_entry (int_max place v) nice slice)
  by_the_place owed = by (int_le v place) refl
    where
      by : (b : Bool) → int_le v place ≡ b → entry_in_range (fresh_entry place nice slice) ≡ entry_in_range (fresh_entry (int_max place v) nice slice)
      by true e = ap (λ (z : ℤ). entry_in_range (fresh_entry z nice slice)) (let same : place ≡ int_max place v = omega (arith, ints, clamps, e) in same)
      by false e =
          let before = before_all v time timed beyond (before_by time lag nice total (total == 0) refl owed) in
          out place nice slice (stays_before place (omega (arith, ints, e, before)))
          ∙ sym (out (int_max place v) nice slice (stays_before (int_max place v) (omega (arith, ints, clamps, e, before))))
