-- Where the least loaded CPU refuses two tasks of a CPU, each task there has more than half of its ideal share.
use Rattle.std.proofs.Common.{◌≡◌, ◌≢◌, ℕ, zero, suc, ◌+◌, ◌*◌, ◌<◌, ◌≤◌, Bool, true, false, [], ◌∷◌, length, refl, sym, ap, ◌∙◌, inl, inr, arith}
use Rattle.std.specs.Prelude.{◌==◌, ◌⊎◌, Some, None}
use Rattle.std.specs.{Ordering.nat_cmp, FinMap.get, FinMap.get-empty}
use Rattle.std.proofs.Math.Nat.{min-le_right, mul-le-mul_left, mul-le-mul_right}
use Rattle.std.proofs.lemmas.{Bool.cases_lt}
use Rattle.eevdf_weight.specs.Weight.{weight_of}
use Rattle.eevdf_queue.specs.{declared.entry.Entry.Entry, Sums.Tasks}
use Rattle.eevdf_ops.specs.{Machine.Machine, Machine.queue_at}
use Rattle.eevdf_ops.proofs.{MapCounts.equal, DeedNames.unequal}
use Rattle.eevdf_balance.specs.Squares.{load_at}
use Rattle.eevdf_balance.specs.HalfShare.{ideal, IsIdealRate, IsRefused, RefusesTwo, BalancedGivesAtLeast}
use Rattle.eevdf_balance.proofs.Ideals.{ideals_in, enough, fits, more_than_whole, two_weigh, beside_others}

-- ---- numbers
-- of two weights the lighter is at most half of the load
at_most_twice : (l load a b : ℕ) → load ≤ l + a → load ≤ l + b → a + b ≤ load → load ≤ 2 * l
at_most_twice l load a b h i k = omega (arith, h, i, k)

-- the load times the rate is at most `2n / (n + 1)` of a whole CPU, where all that the others leave is a CPU
scaled : (n x parts w share load rate : ℕ) → share ≤ w * rate → x ≡ load * rate → (n + 1) * x ≤ 2 * n * parts → (n + 1) * (load * share) ≤ 2 * n * (parts * w)
scaled n x parts w share load rate h is most =
    let part : load * share ≤ load * (w * rate) = mul-le-mul_left load h in
    let all : (n + 1) * (load * share) ≤ (n + 1) * (load * (w * rate)) = mul-le-mul_left (n + 1) part in
    let times : (n + 1) * x * w ≤ 2 * n * parts * w = mul-le-mul_right w most in
    let same : (n + 1) * x * w ≡ (n + 1) * (load * (w * rate)) = ap (λ (y : ℕ). (n + 1) * y * w) is ∙ (let e : (n + 1) * (load * rate) * w ≡ (n + 1) * (load * (w * rate)) = omega arith in e) in
    let order : 2 * n * parts * w ≡ 2 * n * (parts * w) = omega arith in
    omega (arith, all, times, same, order)

alone : (n x parts : ℕ) → 1 ≤ n → x ≤ parts → (n + 1) * x ≤ 2 * n * parts
alone n x parts some h =
    let a : (n + 1) * x ≤ (n + 1) * parts = mul-le-mul_left (n + 1) h in
    let b : (n + 1) * parts ≤ 2 * n * parts = mul-le-mul_right parts (omega (arith, some)) in
    omega (arith, a, b)

spread : (n x z parts : ℕ) → x + suc n * z ≤ suc n * parts + z → x ≤ 2 * z → (suc n + 1) * x ≤ 2 * suc n * parts
spread n x z parts h twice =
    let more : n * x ≤ n * (2 * z) = mul-le-mul_left n twice in
    omega (arith, h, more)

spread_by : (n x z parts : ℕ) → 1 ≤ n → x + n * z ≤ n * parts + z → x ≤ 2 * z → (n + 1) * x ≤ 2 * n * parts
spread_by zero x z parts some h twice = absurd (omega (arith, some))
spread_by (suc n) x z parts some h twice = spread n x z parts h twice

-- ---- the CPU of the two
pub inside : (m : Machine) (k t : ℕ) (e : Entry) → get (queue_at m k).runnable t ≡ Some e → k < length m
inside [] k t e here = absurd (let none : None ≡ Some e = sym (get-empty nat_cmp t) ∙ here in cc)
inside (q ∷ m) zero t e here = omega arith
inside (q ∷ m) (suc k) t e here = let rest = inside m k t e here in omega (arith, rest)

-- one of the two is another task than this one
record Another (m : Machine) (cpu source task : ℕ) : Type 0 where
  other : ℕ
  apart : task ≢ other
  refused : IsRefused m cpu source other

another_by : (m : Machine) (cpu source task : ℕ) (r : RefusesTwo m cpu source) (b : Bool) → (task == r.first) ≡ b → Another m cpu source task
another_by m cpu source task r true e = let is : task ≡ r.first = equal task r.first e in
    record { other = r.second; apart = λ same. r.apart (sym is ∙ same); refused = r.refused_second }
another_by m cpu source task r false e =
    record { other = r.first; apart = λ same. unequal task r.first e same; refused = r.refused_first }

another : (m : Machine) (cpu source task : ℕ) → RefusesTwo m cpu source → Another m cpu source task
another m cpu source task r = another_by m cpu source task r (task == r.first) refl

pub load_twice : (m : Machine) (cpu source : ℕ) → RefusesTwo m cpu source → load_at m source ≤ 2 * load_at m cpu
load_twice m cpu source r =
    let a = r.refused_first in
    let b = r.refused_second in
    at_most_twice (load_at m cpu) (load_at m source) (weight_of a.entry.nice) (weight_of b.entry.nice) a.no_lighter b.no_lighter
    (two_weigh (queue_at m source).runnable r.first r.second a.entry b.entry a.here b.here r.apart)

-- what the tasks of the source have together in the ideal, where the least load is a whole CPU or more
record IsBelow (m : Machine) (rate parts source : ℕ) : Type 0 where
  is : ideals_in rate parts (queue_at m source).runnable ≡ load_at m source * rate
  most : (length m + 1) * (load_at m source * rate) ≤ 2 * length m * parts

module _ (m : Machine) (rate parts cpu source : ℕ) (ideal_rate : IsIdealRate m rate parts) (r : RefusesTwo m cpu source) where
  abbrev l : ℕ
  l = load_at m cpu

  abbrev tasks : Tasks
  tasks = (queue_at m source).runnable

  own : source < length m
  own = inside m source r.first r.refused_first.entry r.refused_first.here

  above : (k : ℕ) → k ≤ parts → k ≤ l * rate → ideals_in rate parts tasks + length m * k ≤ length m * parts + k
  above k h i =
      let each : (c : ℕ) → c < length m → k ≤ ideals_in rate parts (queue_at m c).runnable =
      λ c own. enough rate parts k (queue_at m c).runnable h (let more : l * rate ≤ load_at m c * rate = mul-le-mul_right rate (r.least c own) in omega (arith, i, more)) in
      let all = beside_others rate parts k m source own each in
      omega (arith, all, ideal_rate.all)

  -- the least loaded CPU has work for a whole CPU or more
  full : parts ≤ l * rate → IsBelow m rate parts source
  full h =
      let few : ideals_in rate parts tasks ≤ parts = omega (arith, above parts (omega arith) h) in
      let fit : (t : ℕ) (e : Entry) → get tasks t ≡ Some e → weight_of e.nice * rate ≤ parts = λ t e here. by t e here (cases_lt parts (weight_of e.nice * rate)) in
      let is = fits rate parts tasks fit in
      record { is = is; most = alone (length m) (load_at m source * rate) parts (omega (arith, own)) (omega (arith, is, few)) }
    where
      by : (t : ℕ) (e : Entry) → get tasks t ≡ Some e → (parts < weight_of e.nice * rate) ⊎ (weight_of e.nice * rate ≤ parts) → weight_of e.nice * rate ≤ parts
      by t e here (inr fine) = fine
      by t e here (inl heavy) =
          let o : Another m cpu source t = another m cpu source t r in
          absurd (let no : ⊥ = omega (arith, more_than_whole rate parts tasks t o.other e o.refused.entry ideal_rate.some here o.refused.here o.apart heavy, above parts (omega arith) h) in no)

  -- it has less
  spare : l * rate < parts → IsBelow m rate parts source
  spare h =
      let fit : (t : ℕ) (e : Entry) → get tasks t ≡ Some e → weight_of e.nice * rate ≤ parts = λ t e here. by t e here (cases_lt parts (weight_of e.nice * rate)) in
      let is = fits rate parts tasks fit in
      let twice : load_at m source * rate ≤ 2 * l * rate = mul-le-mul_right rate (load_twice m cpu source r) in
      record { is = is; most = spread_by (length m) (load_at m source * rate) (l * rate) parts (omega (arith, own)) (omega (arith, is, above (l * rate) (omega (arith, h)) (omega arith))) (omega (arith, twice)) }
    where
      by : (t : ℕ) (e : Entry) → get tasks t ≡ Some e → (parts < weight_of e.nice * rate) ⊎ (weight_of e.nice * rate ≤ parts) → weight_of e.nice * rate ≤ parts
      by t e here (inr fine) = fine
      by t e here (inl heavy) =
          let o : Another m cpu source t = another m cpu source t r in
          let pair = two_weigh tasks t o.other e o.refused.entry here o.refused.here o.apart in
          let light : weight_of e.nice * rate ≤ l * rate = mul-le-mul_right rate (omega (arith, pair, o.refused.no_lighter)) in
          absurd (let no : ⊥ = omega (arith, light, heavy, h) in no)

  below : (l * rate < parts) ⊎ (parts ≤ l * rate) → IsBelow m rate parts source
  below (inl less) = spare less
  below (inr more) = full more

pub balanced_gives_half : BalancedGivesAtLeast (λ n. n + 1) (λ n. 2 * n)
balanced_gives_half m rate parts cpu source task e ideal_rate r here =
    let b : IsBelow m rate parts source = below m rate parts cpu source ideal_rate r (cases_lt (load_at m cpu * rate) parts) in
    scaled (length m) (load_at m source * rate) parts (weight_of e.nice) (ideal rate parts e) (load_at m source) rate (min-le_right parts (weight_of e.nice * rate)) refl b.most
