-- The order of tasks, told from both sides, and the earliest by it.
use Rattle.std.proofs.Common.{◌≡◌, ◌≢◌, ℕ, ◌<◌, ◌≤◌, Bool, true, false, ◌&&◌, ◌||◌, Option, sym, arith}
use Rattle.std.specs.Prelude.{ℤ, int_lt, ◌<ℤ◌, ◌⊎◌, nat_lt, not}
use Rattle.std.proofs.{lemmas.Int.ints, lemmas.Bool.Decides.nat_tests}
use Rattle.eevdf_queue.specs.{declared.entry.Entry.Entry, Order.is_before}
use Rattle.eevdf_queue.proofs.Foremost as by

abbrev test : ℤ → ℕ → ℤ → ℕ → Bool
test d t e u = int_lt d e || (not (int_lt e d) && nat_lt t u)

-- each test tells which of the two comes first
pub told : (d e : ℤ) (t u : ℕ) → ((test d t e u ≡ true) × ((d <ℤ e) ⊎ ((d ≡ e) × (t < u)))) ⊎ ((test d t e u ≡ false) × ((e <ℤ d) ⊎ ((d ≡ e) × (u ≤ t))))
told d e t u = grind (arith, ints, nat_tests)

-- that is an order
pub earlier_first : by.IsOrder is_before
earlier_first = record {
  between = λ a b c p q. grind (arith, ints, told c.1.d b.1.d c.0 b.0, told c.1.d a.1.d c.0 a.0, told a.1.d b.1.d a.0 b.0);
  either = λ a b ne. grind (arith, ints, told a.1.d b.1.d a.0 b.0, told b.1.d a.1.d b.0 a.0);
  one_way = λ a b h. grind (arith, ints, told a.1.d b.1.d a.0 b.0, told b.1.d a.1.d b.0 a.0);
  no_later = λ a b c h k. grind (arith, ints, told c.1.d b.1.d c.0 b.0, told b.1.d a.1.d b.0 a.0, told c.1.d a.1.d c.0 a.0);
  itself = λ a. grind (arith, ints, told a.1.d a.1.d a.0 a.0);
}

-- and so is that of the later first
pub later_first : by.IsOrder (λ a b. is_before b a)
later_first = record {
  between = λ a b c p q. grind (arith, ints, told b.1.d c.1.d b.0 c.0, told a.1.d c.1.d a.0 c.0, told b.1.d a.1.d b.0 a.0);
  either = λ a b ne. earlier_first.either b a (λ e. ne (sym e));
  one_way = λ a b h. earlier_first.one_way b a h;
  no_later = λ a b c h k. earlier_first.no_later c b a k h;
  itself = earlier_first.itself;
}

-- one more task that may pass
abbrev pub taken : (Entry → Bool) → ℕ × Entry → Option (ℕ × Entry) → Option (ℕ × Entry)
taken passes a x = by.taken is_before (λ e. passes e.1) a x

pub taken-swap : (passes : Entry → Bool) (a b : ℕ × Entry) (x : Option (ℕ × Entry)) → a.0 ≢ b.0 → taken passes a (taken passes b x) ≡ taken passes b (taken passes a x)
taken-swap passes = by.taken-swap is_before earlier_first (λ e. passes e.1)
