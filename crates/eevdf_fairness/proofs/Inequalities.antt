-- Steps with inequalities.
use Rattle.std.proofs.Common.{◌≡◌, ℕ, suc, zero, ◌+◌, ◌-◌, ◌*◌, ◌≤◌, false, arith}
use Rattle.std.specs.Prelude.{ℤ, ◌≤ℤ◌, ◌==◌}
use Rattle.std.proofs.lemmas.{Int.ints, Bool.Decides.nat_tests}

-- one fewer of the same
pub fewer : (n k : ℕ) → n * k ≤ (n - 1) * k + k
fewer zero k = omega arith
fewer (suc m) k = let less : suc m - 1 ≡ m = omega arith in rw less (omega arith)

pub le_then : (a b c : ℤ) → a ≤ℤ b → b ≤ℤ c → a ≤ℤ c
le_then a b c h k = omega (arith, ints, h, k)

pub no_more : (a b c : ℕ) → a ≤ b → b ≤ c → a ≤ c
no_more a b c h k = omega (arith, h, k)

pub not_zero : (n : ℕ) → 1 ≤ n → (n == 0) ≡ false
not_zero n h = grind (arith, nat_tests)
