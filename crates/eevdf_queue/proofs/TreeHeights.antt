-- How high a tree of few tasks can be.
use Rattle.std.proofs.Common.{◌≡◌, ℕ, zero, suc, ◌+◌, ◌/◌, ◌^◌, ◌≤◌, refl, sym, subst, List, ◌∷◌, ◌++◌, length, length-append, arith}
use Rattle.eevdf_queue.specs.{declared.task.Task.Task, TreeShape.DifferByAtMost, TreeShape.IsFull}
use Rattle.std.specs.Prelude.{max}
use Rattle.std.proofs.{Math.Nat.pow-suc, Math.Pow.pow_mono}

doubled : (j m n p q : ℕ) → j ≤ m → j ≤ n → 2 ^ m ≤ suc p → 2 ^ n ≤ suc q → 2 ^ suc j ≤ suc (p + suc q)
doubled j m n p q a b h k = omega (arith, pow-suc 2 j, pow_mono a, pow_mono b)

-- a node whose sides are of nearly one height
pub full-between : (m n p q : ℕ) → DifferByAtMost 1 m n → IsFull m p → IsFull n q → IsFull (suc (max m n)) (p + suc q)
full-between m n p q d h k =
    at (suc (max m n) / 2) refl
  where
    at : (e : ℕ) → suc (max m n) / 2 ≡ e → 2 ^ (suc (max m n) / 2) ≤ suc (p + suc q)
    at zero e = subst (λ (z : ℕ). 2 ^ z ≤ suc (p + suc q)) (sym e) (omega arith)
    at (suc j) e = subst (λ (z : ℕ). 2 ^ z ≤ suc (p + suc q)) (sym e) (doubled j (m / 2) (n / 2) p q (omega arith) (omega arith) h k)

pub full-node : (h m n : ℕ) (xs : List Task) (t : Task) (ys : List Task) → h ≡ suc (max m n) → DifferByAtMost 1 m n → IsFull m (length xs) → IsFull n (length ys)
    → IsFull h (length (xs ++ t ∷ ys))
full-node h m n xs t ys e d k l =
    subst (λ (z : ℕ). IsFull z (length (xs ++ t ∷ ys))) (sym e)
    (subst (λ (z : ℕ). IsFull (suc (max m n)) z) (sym (length-append xs (t ∷ ys))) (full-between m n (length xs) (length ys) d k l))

below_power : (j : ℕ) → suc j ≤ 2 ^ j
below_power zero = omega arith
below_power (suc j) = omega (arith, pow-suc 2 j, below_power j)

-- a tree of so few tasks is low
pub low : (h n : ℕ) → IsFull h n → n ≤ 1024 → suc h ≤ 65536
low h n full few = omega (arith, full, below_power (h / 2), few)
