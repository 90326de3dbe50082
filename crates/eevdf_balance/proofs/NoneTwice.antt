-- Where the least loaded CPU refuses two tasks of each crowded one, no task has twice its ideal share.
use Rattle.std.proofs.Common.{◌≡◌, ℕ, zero, suc, ◌+◌, ◌-◌, ◌*◌, ◌<◌, ◌≤◌, List, [], ◌∷◌, length, ap, inl, inr, arith}
use Rattle.std.specs.Prelude.{◌⊎◌, Some}
use Rattle.std.specs.FinMap.{get, entries, len-entries}
use Rattle.std.proofs.Math.Nat.{min-le_left, min-le_right, min-eq_left, min-eq_right, mul-le-mul_left, mul-le-mul_right}
use Rattle.std.proofs.lemmas.{Bool.cases_lt, Nat.mul-le}
use Rattle.eevdf_weight.specs.Weight.{weight_of}
use Rattle.eevdf_queue.specs.{declared.entry.Entry.Entry, Sums.sum_weights}
use Rattle.eevdf_ops.specs.{Machine.Machine, Machine.queue_at}
use Rattle.eevdf_balance.specs.{Crowds.tasks_at, Squares.load_at}
use Rattle.eevdf_balance.specs.HalfShare.{ideal, ideals, ideals_of_all, IsIdealRate, RefusesTwoOfEach, BalancedGivesAtMost}
use Rattle.eevdf_balance.proofs.{Ideals.ideals_in, Weights.weight-first, HalfShare.inside, HalfShare.load_twice}

-- together tasks have no more than their weights say, and one alone no more than a CPU
by_weights : (rate parts : ℕ) (es : List (ℕ × Entry)) → ideals rate parts es ≤ sum_weights es * rate
by_weights rate parts [] = omega arith
by_weights rate parts (e ∷ es) = let rest = by_weights rate parts es in omega (arith, min-le_right parts (weight_of e.1.nice * rate), rest)

one_cpu : (rate parts : ℕ) (es : List (ℕ × Entry)) → length es ≤ 1 → ideals rate parts es ≤ parts
one_cpu rate parts [] few = omega arith
one_cpu rate parts (e ∷ []) few = omega (arith, min-le_left parts (weight_of e.1.nice * rate))
one_cpu rate parts (e ∷ f ∷ es) few = absurd (let no : ⊥ = omega (arith, few) in no)

-- ---- machines
each_at_most : (rate parts k : ℕ) (m : Machine) → ((c : ℕ) → c < length m → ideals_in rate parts (queue_at m c).runnable ≤ k) → ideals_of_all rate parts m ≤ length m * k
each_at_most rate parts k [] h = omega arith
each_at_most rate parts k (q ∷ m) h =
    let rest = each_at_most rate parts k m (λ c i. h (suc c) (omega (arith, i))) in
    let first : ideals_in rate parts q.runnable ≤ k = h zero (omega arith) in
    omega (arith, first, rest)

beside_at_most : (rate parts k : ℕ) (m : Machine) (s : ℕ) → s < length m → ((c : ℕ) → c < length m → ideals_in rate parts (queue_at m c).runnable ≤ k)
    → ideals_of_all rate parts m + k ≤ ideals_in rate parts (queue_at m s).runnable + length m * k
beside_at_most rate parts k [] s own h = absurd (omega (arith, own))
beside_at_most rate parts k (q ∷ m) zero own h = let rest = each_at_most rate parts k m (λ c i. h (suc c) (omega (arith, i))) in omega (arith, rest)
beside_at_most rate parts k (q ∷ m) (suc s) own h =
    let rest = beside_at_most rate parts k m s (omega (arith, own)) (λ c i. h (suc c) (omega (arith, i))) in
    let first : ideals_in rate parts q.runnable ≤ k = h zero (omega arith) in
    omega (arith, first, rest)

-- ---- numbers
-- a task that has a whole CPU in the ideal
whole_cpu : (n w load parts : ℕ) → 1 ≤ n → w ≤ load → n * (parts * w) ≤ (2 * n - 1) * (load * parts)
whole_cpu n w load parts some light =
    let one : parts * w ≤ load * parts = (let a : parts * w ≤ parts * load = mul-le-mul_left parts light in omega (arith, a)) in
    mul-le n (parts * w) (2 * n - 1) (load * parts) (omega (arith, some)) one

-- and any other, where the least load has a part of a CPU that isn't too small
spare_by : (k parts z : ℕ) → suc k * parts + z ≤ suc k * (2 * z) → suc k * parts ≤ (2 * k + 1) * z
spare_by k parts z h = omega (arith, h)

spare_cpu : (k w load parts rate z : ℕ) → suc k * parts + z ≤ suc k * (2 * z) → z ≤ load * rate → suc k * (parts * w) ≤ (2 * k + 1) * (load * (w * rate))
spare_cpu k w load parts rate z h less =
    let a : suc k * parts * w ≤ (2 * k + 1) * z * w = mul-le-mul_right w (spare_by k parts z h) in
    let b : (2 * k + 1) * z ≤ (2 * k + 1) * (load * rate) = mul-le-mul_left (2 * k + 1) less in
    let c : (2 * k + 1) * z * w ≤ (2 * k + 1) * (load * rate) * w = mul-le-mul_right w b in
    let left : suc k * parts * w ≡ suc k * (parts * w) = omega arith in
    let right : (2 * k + 1) * (load * rate) * w ≡ (2 * k + 1) * (load * (w * rate)) = omega arith in
    omega (arith, a, c, left, right)

spare : (n w load parts rate z : ℕ) → 1 ≤ n → n * parts + z ≤ n * (2 * z) → z ≤ load * rate → n * (parts * w) ≤ (2 * n - 1) * (load * (w * rate))
spare zero w load parts rate z some h less = absurd (omega (arith, some))
spare (suc k) w load parts rate z some h less =
    let odd : 2 * suc k - 1 ≡ 2 * k + 1 = omega arith in
    let is = spare_cpu k w load parts rate z h less in
    let same : (2 * suc k - 1) * (load * (w * rate)) ≡ (2 * k + 1) * (load * (w * rate)) = ap (λ (x : ℕ). x * (load * (w * rate))) odd in
    omega (arith, is, same)

module _ (m : Machine) (rate parts cpu : ℕ) (ideal_rate : IsIdealRate m rate parts) (r : RefusesTwoOfEach m cpu) where
  abbrev z : ℕ
  z = load_at m cpu * rate

  -- each CPU's tasks have no more than twice what the least load has, or a CPU
  each_by : (c k : ℕ) → 2 * z ≤ k → parts ≤ k → (tasks_at m c < 2) ⊎ (2 ≤ tasks_at m c) → ideals_in rate parts (queue_at m c).runnable ≤ k
  each_by c k twice all (inl few) =
      let one : length (entries (queue_at m c).runnable) ≤ 1 = omega (arith, few, len-entries (queue_at m c).runnable) in
      omega (arith, one_cpu rate parts (entries (queue_at m c).runnable) one, all)
  each_by c k twice all (inr many) =
      let double : load_at m c * rate ≤ 2 * load_at m cpu * rate = mul-le-mul_right rate (load_twice m cpu c (r.each c many)) in
      omega (arith, by_weights rate parts (entries (queue_at m c).runnable), double, twice)

  together : (k : ℕ) → 2 * z ≤ k → parts ≤ k → length m * parts + k ≤ z + length m * k
  together k twice all =
      omega (arith, beside_at_most rate parts k m cpu r.there (λ c own. each_by c k twice all (cases_lt (tasks_at m c) 2)), ideal_rate.all, by_weights rate parts (entries (queue_at m cpu).runnable))

  -- so the least load has half a CPU or more
  enough_by : (2 * z < parts) ⊎ (parts ≤ 2 * z) → length m * parts + z ≤ length m * (2 * z)
  enough_by (inl less) = absurd (let no : ⊥ = omega (arith, together parts (omega (arith, less)) (omega arith), less) in no)
  enough_by (inr more) = let all = together (2 * z) (omega arith) more in omega (arith, all)

  none_twice : (source task : ℕ) (e : Entry) → get (queue_at m source).runnable task ≡ Some e → (parts < weight_of e.nice * rate) ⊎ (weight_of e.nice * rate ≤ parts)
      → length m * (parts * weight_of e.nice) ≤ (2 * length m - 1) * (load_at m source * ideal rate parts e)
  none_twice source task e here (inl heavy) =
      let is : load_at m source * ideal rate parts e ≡ load_at m source * parts = ap (λ (x : ℕ). load_at m source * x) (min-eq_left (omega (arith, heavy))) in
      let light : weight_of e.nice ≤ load_at m source = omega (arith, weight-first (queue_at m source).runnable task e here) in
      let most = whole_cpu (length m) (weight_of e.nice) (load_at m source) parts (omega (arith, r.there)) light in
      let same : (2 * length m - 1) * (load_at m source * ideal rate parts e) ≡ (2 * length m - 1) * (load_at m source * parts) = ap (λ (x : ℕ). (2 * length m - 1) * x) is in
      omega (arith, most, same)
  none_twice source task e here (inr fits) =
      let is : ideal rate parts e ≡ weight_of e.nice * rate = min-eq_right fits in
      let less : z ≤ load_at m source * rate = mul-le-mul_right rate (r.least source (inside m source task e here)) in
      let most = spare (length m) (weight_of e.nice) (load_at m source) parts rate z (omega (arith, r.there)) (enough_by (cases_lt (2 * z) parts)) less in
      let same : (2 * length m - 1) * (load_at m source * ideal rate parts e) ≡ (2 * length m - 1) * (load_at m source * (weight_of e.nice * rate)) =
      ap (λ (x : ℕ). (2 * length m - 1) * (load_at m source * x)) is in
      omega (arith, most, same)

pub balanced_gives_none_twice : BalancedGivesAtMost (λ n. 2 * n - 1) (λ n. n)
balanced_gives_none_twice m rate parts cpu source task e ideal_rate r here =
    none_twice m rate parts cpu ideal_rate r source task e here (cases_lt parts (weight_of e.nice * rate))
