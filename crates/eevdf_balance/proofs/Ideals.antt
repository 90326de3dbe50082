-- Ideal shares of the tasks of a CPU, and of all tasks of a machine.
use Rattle.std.proofs.Common.{◌≡◌, ◌≢◌, ℕ, zero, suc, ◌+◌, ◌*◌, ◌<◌, ◌≤◌, List, [], ◌∷◌, length, T, refl, sym, ap, ◌∙◌, inl, inr, arith}
use Rattle.std.specs.Prelude.{min, ◌⊎◌, Some}
use Rattle.std.specs.Ordering.{nat_cmp}
use Rattle.std.specs.FinMap.{get, remove, entries, entries_sorted, find, is_sorted, get-entries}
use Rattle.std.proofs.Math.Nat.{min-le_left, min-le_right, le-min, min-eq_left, min-eq_right}
use Rattle.std.proofs.lemmas.{Bool.cases_lt, Nat.mul-le}
use Rattle.eevdf_weight.specs.Weight.{weight_of}
use Rattle.eevdf_weight.proofs.Weighing.{weight_of-least}
use Rattle.eevdf_queue.specs.{declared.entry.Entry.Entry, Sums.Tasks, Sums.sum_weights, Sums.total_weight}
use Rattle.eevdf_queue.proofs.{Foremost.head, Foremost.behind, SortedEntries.none_found, SortedEntries.sorted_parts}
use Rattle.eevdf_ops.specs.{Machine.Machine, Machine.queue_at}
use Rattle.eevdf_balance.specs.HalfShare.{ideal, ideals, ideals_of_all}
use Rattle.eevdf_balance.proofs.Weights.{sum_of, sum-first, weight-first, still}

abbrev pub ideals_in : ℕ → ℕ → Tasks → ℕ
ideals_in rate parts tasks = ideals rate parts (entries tasks)

-- together tasks have no less than one task of all their weight
least_of_sum : (r x y : ℕ) → min r (x + y) ≤ min r x + min r y
least_of_sum r x y = by (cases_lt r x) (cases_lt r y)
  where
    by : (r < x) ⊎ (x ≤ r) → (r < y) ⊎ (y ≤ r) → min r (x + y) ≤ min r x + min r y
    by (inl h) other = omega (arith, min-le_left r (x + y), min-eq_left {n = r} {m = x} (omega (arith, h)))
    by (inr h) (inl k) = omega (arith, min-le_left r (x + y), min-eq_left {n = r} {m = y} (omega (arith, k)))
    by (inr h) (inr k) = omega (arith, min-le_right r (x + y), min-eq_right h, min-eq_right k)

at_least : (rate parts : ℕ) (es : List (ℕ × Entry)) → min parts (sum_weights es * rate) ≤ ideals rate parts es
at_least rate parts [] = omega (arith, min-le_right parts (0 * rate))
at_least rate parts (e ∷ es) =
    let w : ℕ = weight_of e.1.nice in
    let apart : (w + sum_weights es) * rate ≡ w * rate + sum_weights es * rate = omega arith in
    let both : min parts (w * rate + sum_weights es * rate) ≤ min parts (w * rate) + min parts (sum_weights es * rate) = least_of_sum parts (w * rate) (sum_weights es * rate) in
    let first : min parts ((w + sum_weights es) * rate) ≡ min parts (w * rate + sum_weights es * rate) = ap (min parts) apart in
    omega (arith, first, both, at_least rate parts es)

pub enough : (rate parts k : ℕ) (tasks : Tasks) → k ≤ parts → k ≤ total_weight tasks * rate → k ≤ ideals_in rate parts tasks
enough rate parts k tasks h i =
    let low : k ≤ min parts (total_weight tasks * rate) = le-min h i in
    omega (arith, low, at_least rate parts (entries tasks))

-- where no task would have more than a whole CPU, they have what their weights say
fits_by : (rate parts : ℕ) (es : List (ℕ × Entry)) → T (is_sorted nat_cmp es) → ((t : ℕ) (e : Entry) → find nat_cmp t es ≡ Some e → weight_of e.nice * rate ≤ parts)
    → ideals rate parts es ≡ sum_weights es * rate
fits_by rate parts [] s h = omega arith
fits_by rate parts (e ∷ es) s h =
    let ordered = sorted_parts e es s in
    let absent = none_found e.0 e.0 es ordered.0 (omega arith) in
    let first : min parts (weight_of e.1.nice * rate) ≡ weight_of e.1.nice * rate = min-eq_right (h e.0 e.1 (head e es)) in
    let rest = fits_by rate parts es ordered.1 (λ t f found. h t f (behind e (t, f) es absent found)) in
    omega (arith, first, rest)

pub fits : (rate parts : ℕ) (tasks : Tasks) → ((t : ℕ) (e : Entry) → get tasks t ≡ Some e → weight_of e.nice * rate ≤ parts) → ideals_in rate parts tasks ≡ total_weight tasks * rate
fits rate parts tasks h = fits_by rate parts (entries tasks) (entries_sorted tasks) (λ t e found. h t e (get-entries tasks t ∙ found))

-- a task that would have more than a whole CPU has a whole one, and any other has something beside it
ideals_sum : (rate parts : ℕ) (es : List (ℕ × Entry)) → sum_of (ideal rate parts) es ≡ ideals rate parts es
ideals_sum rate parts [] = refl
ideals_sum rate parts (e ∷ es) = ap (λ (n : ℕ). ideal rate parts e.1 + n) (ideals_sum rate parts es)

some_rate : (w rate parts : ℕ) → parts < w * rate → 1 ≤ rate
some_rate w zero parts h = absurd (let no : ⊥ = omega (arith, h) in no)
some_rate w (suc rate) parts h = omega arith

pub more_than_whole : (rate parts : ℕ) (tasks : Tasks) (t u : ℕ) (e f : Entry) → 1 ≤ parts → get tasks t ≡ Some e → get tasks u ≡ Some f → t ≢ u → parts < weight_of e.nice * rate
    → parts < ideals_in rate parts tasks
more_than_whole rate parts tasks t u e f some here there apart heavy =
    let rest : Tasks = remove tasks t in
    let first : ideals_in rate parts tasks ≡ ideal rate parts e + ideals_in rate parts rest =
    sym (ideals_sum rate parts (entries tasks)) ∙ sum-first (ideal rate parts) tasks t e here ∙ ap (λ (n : ℕ). ideal rate parts e + n) (ideals_sum rate parts (entries rest)) in
    let all : ideal rate parts e ≡ parts = min-eq_left (omega (arith, heavy)) in
    let weighs : total_weight rest ≡ weight_of f.nice + total_weight (remove rest u) = weight-first rest u f (still tasks t u apart ∙ there) in
    let light : 1 * 1 ≤ total_weight rest * rate = mul-le 1 1 (total_weight rest) rate (omega (arith, weighs, weight_of-least f.nice)) (some_rate (weight_of e.nice) rate parts heavy) in
    omega (arith, first, all, enough rate parts 1 rest some (omega (arith, light)))

-- two tasks of a CPU weigh no more than all
pub two_weigh : (tasks : Tasks) (t u : ℕ) (e f : Entry) → get tasks t ≡ Some e → get tasks u ≡ Some f → t ≢ u → weight_of e.nice + weight_of f.nice ≤ total_weight tasks
two_weigh tasks t u e f here there apart =
    omega (arith, weight-first tasks t e here, weight-first (remove tasks t) u f (still tasks t u apart ∙ there))

-- ---- machines
each_at_least : (rate parts k : ℕ) (m : Machine) → ((c : ℕ) → c < length m → k ≤ ideals_in rate parts (queue_at m c).runnable) → length m * k ≤ ideals_of_all rate parts m
each_at_least rate parts k [] h = omega arith
each_at_least rate parts k (q ∷ m) h =
    let rest = each_at_least rate parts k m (λ c i. h (suc c) (omega (arith, i))) in
    let first : k ≤ ideals_in rate parts q.runnable = h zero (omega arith) in
    omega (arith, first, rest)

-- one CPU's tasks have what the others leave
pub beside_others : (rate parts k : ℕ) (m : Machine) (s : ℕ) → s < length m → ((c : ℕ) → c < length m → k ≤ ideals_in rate parts (queue_at m c).runnable)
    → ideals_in rate parts (queue_at m s).runnable + length m * k ≤ ideals_of_all rate parts m + k
beside_others rate parts k [] s own h = absurd (omega (arith, own))
beside_others rate parts k (q ∷ m) zero own h = let rest = each_at_least rate parts k m (λ c i. h (suc c) (omega (arith, i))) in omega (arith, rest)
beside_others rate parts k (q ∷ m) (suc s) own h =
    let rest = beside_others rate parts k m s (omega (arith, own)) (λ c i. h (suc c) (omega (arith, i))) in
    let first : k ≤ ideals_in rate parts q.runnable = h zero (omega arith) in
    omega (arith, first, rest)
