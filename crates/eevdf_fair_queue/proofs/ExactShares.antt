-- Steps with exact shares: `over / under` of a share, `S` the parts of a nanosecond times the load `W`, `w` the weight of a task.
use Rattle.std.proofs.Common.{◌≡◌, ℕ, ◌+◌, ◌-◌, ◌*◌, ◌/◌, ◌≤◌, ap, arith, mul-le-mul_right}
use Rattle.std.specs.Prelude.{ℤ, pos, ◌+ℤ◌, ◌-ℤ◌, ◌*ℤ◌, ◌≤ℤ◌, neg_ℤ}
use Rattle.std.proofs.lemmas.Int.{ints}
use Rattle.eevdf_queue.proofs.Scaled.{sum_scaled, difference_scaled, scaled_le, scaled_twice}
use Rattle.eevdf_queue.proofs.Floors.{no_more}
use borrow.Author.Differences.{product_is}

-- a multiple of a multiple
scaled_product : (z : ℤ) (m n : ℕ) → (z *ℤ pos m) *ℤ pos n ≡ z *ℤ pos (m * n)
scaled_product z m n =
    omega (arith, ints, ap (λ (k : ℕ). k * n) (product_is z (pos m)).0, ap (λ (k : ℕ). k * n) (product_is z (pos m)).1)

cancelled : (a b : ℤ) (n : ℕ) → 1 ≤ n → (a *ℤ pos n) ≤ℤ (b *ℤ pos n) → a ≤ℤ b
cancelled a b n some h = no_more a b (b *ℤ pos n) n h (omega (arith, ints, some))

scaled_bound : (a b : ℤ) (x y n : ℕ) → a ≤ℤ (pos x +ℤ (b *ℤ pos y)) → (a *ℤ pos n) ≤ℤ (pos (x * n) +ℤ (b *ℤ pos (y * n)))
scaled_bound a b x y n h =
    omega (arith, ints, scaled_le a (pos x +ℤ (b *ℤ pos y)) n h, sum_scaled (pos x) (b *ℤ pos y) n, scaled_product b y n)

-- a charge of another task
pub charged_other : (over under served S K W w ns : ℕ) (z : ℤ) → pos (over * S) ≤ℤ (pos (under * (served * S)) +ℤ (z *ℤ pos (under * w)))
    → S ≡ K * W
    → pos ((over * W + w * ns * under) * S) ≤ℤ (pos (under * W * (served * S)) +ℤ ((z +ℤ pos (ns * K)) *ℤ pos (under * W * w)))
charged_other over under served S K W w ns z h s =
    let m = scaled_bound (pos (over * S)) z (under * (served * S)) (under * w) W h in
    let t = sum_scaled z (pos (ns * K)) (under * W * w) in
    let u : w * ns * under * S ≡ ns * K * (under * W * w) = omega (arith, ap (λ (k : ℕ). w * ns * under * k) s) in
    let p : under * w * W ≡ under * W * w = omega arith in
    let q : z *ℤ pos (under * w * W) ≡ z *ℤ pos (under * W * w) = ap (λ (k : ℕ). z *ℤ pos k) p in
    omega (arith, ints, m, t, u, q)

-- and of the task itself, which is charged no more virtual time than it was served
pub charged_itself : (X : ℤ) (under served S P K W w ns c : ℕ) (y : ℤ) → X ≤ℤ (pos (under * W * (served * S)) +ℤ (y *ℤ pos (under * W * w)))
    → S ≡ K * W → K ≡ 1024 * P → c * w ≤ 1024 * ns
    → X ≤ℤ (pos (under * W * ((served + ns) * S)) +ℤ ((y -ℤ pos (c * P * W)) *ℤ pos (under * W * w)))
charged_itself X under served S P K W w ns c y h s k less =
    let a : c * P * W * (under * W * w) ≤ 1024 * ns * (under * W * W * P) = omega (arith, mul-le-mul_right (under * W * W * P) less) in
    let b : under * W * (ns * S) ≡ 1024 * ns * (under * W * W * P) = omega (arith, ap (λ (j : ℕ). under * W * (ns * j)) s, ap (λ (j : ℕ). under * W * ns * j * W) k) in
    let t = difference_scaled y (pos (c * P * W)) (under * W * w) in
    omega (arith, ints, h, a, b, t)

-- without the load
pub by_parts : (over under served K W w n q : ℕ) (y : ℤ)
    → pos (over * (K * W)) ≤ℤ (pos (under * (served * (K * W))) +ℤ (((y *ℤ pos W) +ℤ pos (n * K)) *ℤ pos (under * w)))
    → 1 ≤ W → n * K ≤ q * W
    → pos (over * K) ≤ℤ (pos (under * (served * K)) +ℤ ((y +ℤ pos q) *ℤ pos (under * w)))
by_parts over under served K W w n q y h some up =
    let a : ((y *ℤ pos W) +ℤ pos (n * K)) ≤ℤ ((y +ℤ pos q) *ℤ pos W) = omega (arith, ints, sum_scaled y (pos q) W, up) in
    let b = scaled_le ((y *ℤ pos W) +ℤ pos (n * K)) ((y +ℤ pos q) *ℤ pos W) (under * w) a in
    let c : ((y +ℤ pos q) *ℤ pos W) *ℤ pos (under * w) ≡ ((y +ℤ pos q) *ℤ pos (under * w)) *ℤ pos W = scaled_twice (y +ℤ pos q) W (under * w) in
    let d = sum_scaled (pos (under * (served * K))) ((y +ℤ pos q) *ℤ pos (under * w)) W in
    cancelled (pos (over * K)) (pos (under * (served * K)) +ℤ ((y +ℤ pos q) *ℤ pos (under * w))) W some
    (omega (arith, ints, h, b, c, d))

-- at another load
pub at_load : (over under served K W w : ℕ) (k : ℤ) → pos (over * K) ≤ℤ (pos (under * (served * K)) +ℤ (k *ℤ pos (under * w)))
    → pos (over * (K * W)) ≤ℤ (pos (under * (served * (K * W))) +ℤ (((k *ℤ pos W) +ℤ pos (0 * K)) *ℤ pos (under * w)))
at_load over under served K W w k h =
    let a = scaled_le (pos (over * K)) (pos (under * (served * K)) +ℤ (k *ℤ pos (under * w))) W h in
    let d = sum_scaled (pos (under * (served * K))) (k *ℤ pos (under * w)) W in
    let c : (k *ℤ pos W) *ℤ pos (under * w) ≡ (k *ℤ pos (under * w)) *ℤ pos W = scaled_twice k W (under * w) in
    let e = sum_scaled (k *ℤ pos W) (pos (0 * K)) (under * w) in
    omega (arith, ints, a, d, c, e)

-- in nanoseconds
pub in_time : (over under served K w N : ℕ) (k : ℤ) → pos (over * K) ≤ℤ (pos (under * (served * K)) +ℤ (k *ℤ pos (under * w)))
    → 1 ≤ K → (k *ℤ pos w) ≤ℤ pos (N * K) → over ≤ under * (served + N)
in_time over under served K w N k h some is =
    let a = scaled_le (k *ℤ pos w) (pos (N * K)) under is in
    let b : (k *ℤ pos w) *ℤ pos under ≡ k *ℤ pos (w * under) = scaled_product k w under in
    let c : k *ℤ pos (w * under) ≡ k *ℤ pos (under * w) = ap (λ (j : ℕ). k *ℤ pos j) (omega arith) in
    within (cancelled (pos over) (pos (under * (served + N))) K some (omega (arith, ints, h, a, b, c)))
  where
    within : pos over ≤ℤ pos (under * (served + N)) → over ≤ under * (served + N)
    within l = omega (arith, ints, l)

-- ---- quotients
pub rounded_up : (a b : ℕ) → 1 ≤ b → a ≤ (a + (b - 1)) / b * b
rounded_up a b some = omega (arith, some)

pub rounded_down : (a b : ℕ) → 1 ≤ b → a / b * b ≤ a
rounded_down a b some = omega (arith, some)

-- ---- how far the clock is past a mark
pub gone_on : (y : ℤ) (W n ns K : ℕ) → (y *ℤ pos W) +ℤ pos ((n + ns) * K) ≡ ((y *ℤ pos W) +ℤ pos (n * K)) +ℤ pos (ns * K)
gone_on y W n ns K = omega (arith, ints)

pub run_on : (z v m : ℤ) (W c P : ℕ) (by : ℤ)
    → ((((z -ℤ ((v +ℤ pos c) *ℤ pos P)) -ℤ m) *ℤ pos W) +ℤ by) ≡ (((((z -ℤ (v *ℤ pos P)) -ℤ m) *ℤ pos W) +ℤ by) -ℤ pos (c * P * W))
run_on z v m W c P by =
    let a = sum_scaled v (pos c) P in
    let b : ((z -ℤ ((v +ℤ pos c) *ℤ pos P)) -ℤ m) ≡ (((z -ℤ (v *ℤ pos P)) -ℤ m) -ℤ pos (c * P)) = omega (arith, ints, a) in
    let d = ap (λ (k : ℤ). k *ℤ pos W) b in
    let e = difference_scaled ((z -ℤ (v *ℤ pos P)) -ℤ m) (pos (c * P)) W in
    omega (arith, ints, d, e)

pub both_lower : (z v m by : ℤ) (P : ℕ) → (((z +ℤ neg_ℤ (by *ℤ pos P)) -ℤ ((v -ℤ by) *ℤ pos P)) -ℤ m) ≡ ((z -ℤ (v *ℤ pos P)) -ℤ m)
both_lower z v m by P = omega (arith, ints, difference_scaled v by P)

pub settled_on : (z x m q : ℤ) → (((z +ℤ q) -ℤ x) -ℤ m) ≡ (((z -ℤ x) -ℤ m) +ℤ q)
settled_on z x m q = omega (arith, ints)

-- a mark is no further than the clock
pub from_mark : (z x : ℤ) (W n K q : ℕ) → q * W ≤ n * K → pos 0 ≤ℤ ((((z -ℤ x) -ℤ ((z -ℤ x) +ℤ pos q)) *ℤ pos W) +ℤ pos (n * K))
from_mark z x W n K q h =
    let a : ((z -ℤ x) -ℤ ((z -ℤ x) +ℤ pos q)) ≡ (pos 0 -ℤ pos q) = omega (arith, ints) in
    let b = ap (λ (k : ℤ). k *ℤ pos W) a in
    omega (arith, ints, b, difference_scaled (pos 0) (pos q) W, h)

pub nothing : (K W w : ℕ) (z : ℤ) → pos 0 ≤ℤ z → pos (0 * (K * W)) ≤ℤ (pos (1 * (0 * (K * W))) +ℤ (z *ℤ pos (1 * w)))
nothing K W w z h = omega (arith, ints, scaled_le (pos 0) z (1 * w) h)
