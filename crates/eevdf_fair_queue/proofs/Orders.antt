-- What all proofs here know of the order of numbers, and of what is found in one place.
use Rattle.std.proofs.Common.{◌≡◌, Option, Some, None, arith}
use Rattle.std.specs.Prelude.{ℤ, pos, ◌+ℤ◌, ◌≤ℤ◌}
use Rattle.std.specs.Int.{int_min, int_max}
use Rattle.std.proofs.{lemmas.Int.ints, lemmas.Int.clamps}
use Rattle.eevdf_queue.specs.declared.entry.Entry.{Entry}

pub nothing_less : (z : ℤ) → z ≤ℤ z
nothing_less z = omega (arith, ints)

pub then : (a b c : ℤ) → a ≤ℤ b → b ≤ℤ c → a ≤ℤ c
then a b c h k = omega (arith, ints, h, k)

pub lesser : (a b : ℤ) → int_min a b ≤ℤ a
lesser a b = omega (arith, ints, clamps)

pub lesser_other : (a b : ℤ) → int_min a b ≤ℤ b
lesser_other a b = omega (arith, ints, clamps)

pub greatest : (a b : ℤ) → a ≤ℤ int_max a b
greatest a b = omega (arith, ints, clamps)

pub greatest_other : (a b : ℤ) → b ≤ℤ int_max a b
greatest_other a b = omega (arith, ints, clamps)

pub past_none : (v d by : ℤ) → v ≤ℤ d → pos 0 ≤ℤ by → v ≤ℤ (d +ℤ by)
past_none v d by h k = omega (arith, ints, h, k)

pub no_turn : {A : Type 0} (turn : ℤ) (o : Option ℤ) → o ≡ None → o ≡ Some turn → A
no_turn turn o none is = absurd (cc)

pub one : (e f : Entry) (o : Option Entry) → o ≡ Some e → o ≡ Some f → e ≡ f
one e f o h k = cc
