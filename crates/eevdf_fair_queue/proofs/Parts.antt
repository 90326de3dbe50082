-- How many parts of virtual time a clock goes through.
use Rattle.std.proofs.Common.{◌≡◌, ℕ, ◌+◌, ◌-◌, ◌*◌, ◌/◌, ◌<◌, ◌≤◌, ◌^◌, true, arith, mul-le-mul}
use Rattle.std.specs.Prelude.{ℤ, unsigned_abs}
use Rattle.std.proofs.{Math.Nat.div-le_self, lemmas.Bool.Decides.nat_tests}
use Rattle.eevdf_fair_queue.specs.ShareClock.{is_clock}

no_more : (q n l : ℕ) → q ≤ n * 2 ^ 42 + (l - 1) → n < 2 ^ 64 → l < 2 ^ 64 → q ≤ 2 ^ 107
no_more q n l h m k = omega (arith, h, m, k)

pub few : (ns load : ℕ) → ns < 2 ^ 64 → load < 2 ^ 64 → (ns * 2 ^ 42 + (load - 1)) / load ≤ 2 ^ 107
few ns load h k = no_more ((ns * 2 ^ 42 + (load - 1)) / load) ns load (div-le_self (ns * 2 ^ 42 + (load - 1)) load) h k

no_more_down : (q n : ℕ) → q ≤ n * 2 ^ 42 → n < 2 ^ 64 → q ≤ 2 ^ 107
no_more_down q n h m = omega (arith, h, m)

pub fewer : (ns load : ℕ) → ns < 2 ^ 64 → ns * 2 ^ 42 / load ≤ 2 ^ 107
fewer ns load h = no_more_down (ns * 2 ^ 42 / load) ns (div-le_self (ns * 2 ^ 42) load) h

product : (a w : ℕ) → a ≤ 2 ^ 109 → w ≤ 88761 → a * w ≤ 2 ^ 109 * 88761
product a w h k = mul-le-mul h k

pub lacking : (a w : ℕ) → a ≤ 2 ^ 109 → w ≤ 88761 → a * w + (2 ^ 42 - 1) < 2 ^ 128
lacking a w h k = omega (arith, product a w h k)

pub within : (z : ℤ) → is_clock z ≡ true → unsigned_abs z ≤ 2 ^ 100
within z h = grind (arith, nat_tests)
