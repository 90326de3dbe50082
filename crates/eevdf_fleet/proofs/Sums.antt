-- Sums over the numbers below one.
use Rattle.std.proofs.Common.{◌≡◌, ℕ, zero, suc, ◌+◌, ◌*◌, ◌<◌, ◌≤◌, Bool, true, false, refl, subst, arith}
use Rattle.std.specs.Prelude.{◌==◌}
use Rattle.std.proofs.lemmas.Bool.Decides.{nat_tests}
use Rattle.eevdf_fleet.specs.Claims.{once}

pub sum_below : (ℕ → ℕ) → ℕ → ℕ
sum_below f zero = 0
sum_below f (suc n) = f n + sum_below f n

pub sum-none : (f : ℕ → ℕ) (n : ℕ) → ((k : ℕ) → f k ≡ 0) → sum_below f n ≡ 0
unfolding sum_below
sum-none f zero h = refl
sum-none f (suc n) h = omega (arith, sum-none f n h, h n)

pub sum-same : (f g : ℕ → ℕ) (n : ℕ) → ((k : ℕ) → f k ≡ g k) → sum_below f n ≡ sum_below g n
unfolding sum_below
sum-same f g zero h = refl
sum-same f g (suc n) h = omega (arith, sum-same f g n h, h n)

-- one more at one number is seen by the sums that reach past it
sum-past : (f g : ℕ → ℕ) (at n : ℕ) → ((k : ℕ) → f k ≡ once (at == k) + g k) → n ≤ at → sum_below f n ≡ sum_below g n
unfolding sum_below
sum-past f g at zero more h = refl
sum-past f g at (suc n) more h =
    let apart : once (at == n) ≡ 0 = grind (arith, nat_tests) in omega (arith, sum-past f g at n more (omega arith), more n)

sum-at : (f g : ℕ → ℕ) (at n : ℕ) (b : Bool) → (at == n) ≡ b → ((k : ℕ) → f k ≡ once (at == k) + g k) → at < suc n → (at < n → sum_below f n ≡ suc (sum_below g n)) → f n + sum_below f n ≡ suc (g n + sum_below g n)
sum-at f g at n true e more h rest =
    let same : at ≡ n = grind (arith, nat_tests) in
    let one : once (at == n) ≡ 1 = grind (arith, nat_tests) in
    omega (arith, sum-past f g at n more (omega arith), more n)
sum-at f g at n false e more h rest =
    let before : at < n = grind (arith, nat_tests) in
    let none : once (at == n) ≡ 0 = grind (arith, nat_tests) in
    omega (arith, rest before, more n)

pub sum-once : (f g : ℕ → ℕ) (at n : ℕ) → ((k : ℕ) → f k ≡ once (at == k) + g k) → at < n → sum_below f n ≡ suc (sum_below g n)
unfolding sum_below
sum-once f g at zero more h = absurd (omega arith)
sum-once f g at (suc n) more h = sum-at f g at n (at == n) refl more h (λ less. sum-once f g at n more less)

pub sum-most : (f : ℕ → ℕ) (most n : ℕ) → ((k : ℕ) → f k ≤ most) → sum_below f n ≤ n * most
unfolding sum_below
sum-most f most zero h = omega arith
sum-most f most (suc n) h = omega (arith, sum-most f most n h, h n)

sum-less-at : (f : ℕ → ℕ) (most n cpu : ℕ) (b : Bool) → (cpu == n) ≡ b → ((k : ℕ) → f k ≤ most) → cpu < suc n → f cpu < most → (cpu < n → sum_below f n < n * most) → f n + sum_below f n < suc n * most
sum-less-at f most n cpu true e h less some rest =
    let same : cpu ≡ n = grind (arith, nat_tests) in
    let here : f n < most = subst (λ (k : ℕ). f k < most) same some in
    omega (arith, sum-most f most n h)
sum-less-at f most n cpu false e h less some rest =
    let before : cpu < n = grind (arith, nat_tests) in omega (arith, rest before, h n)

pub sum-less : (f : ℕ → ℕ) (most n cpu : ℕ) → ((k : ℕ) → f k ≤ most) → cpu < n → f cpu < most → sum_below f n < n * most
unfolding sum_below
sum-less f most zero cpu h less some = absurd (omega arith)
sum-less f most (suc n) cpu h less some = sum-less-at f most n cpu (cpu == n) refl h less some (λ before. sum-less f most n cpu h before some)
