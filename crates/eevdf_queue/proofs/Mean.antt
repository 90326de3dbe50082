-- The weighted mean: the lags balance about it, and not every task lies past it.
use Rattle.std.proofs.Common.{◌≡◌, ℕ, ◌+◌, Bool, false, List, [], ◌∷◌, length, Option, Some, None, refl, ◌∙◌, arith}
use Rattle.std.specs.Prelude.{ℤ, pos, ◌+ℤ◌, ◌-ℤ◌, ◌*ℤ◌, ◌≤ℤ◌, int_le}
use Rattle.std.specs.FinMap.{empty, entries, len-entries, empty_of_len, get-entries}
use Rattle.std.proofs.lemmas.Int.{ints}
use Rattle.eevdf_weight.specs.Weight.{weight_of}
use Rattle.eevdf_weight.proofs.Weighing.{weight_of-least}
use Rattle.eevdf_queue.specs.{declared.entry.Entry.Entry, Order.earliest}
use Rattle.eevdf_queue.specs.Sums.{Tasks, sum_weights, sum_moments, total_weight, total_moment}
use Rattle.eevdf_queue.specs.Pick.{Eligible, is_eligible_at, is_eligible}
use Rattle.eevdf_queue.specs.Laws.{sum_lags, LagsBalance, SomeTaskIsEligible}
use Rattle.eevdf_queue.proofs.Scaled.{sum_scaled, difference_scaled, scaled_twice, scaled_sum, scaled_le}
use Rattle.eevdf_queue.proofs.MapFolds.{AreDistinct}
use Rattle.eevdf_queue.proofs.SortedEntries.{distinct_entries}
use Rattle.eevdf_queue.proofs.Picking.{NonePasses, IsEarliest, earliest_is, none_behind}

-- one more task on both sides
one_lag : (S v M L : ℤ) (W w n : ℕ) → L ≡ (S *ℤ pos n) -ℤ (M *ℤ pos W)
    → ((S -ℤ (v *ℤ pos W)) *ℤ pos w) +ℤ L ≡ (S *ℤ pos (w + n)) -ℤ (((v *ℤ pos w) +ℤ M) *ℤ pos W)
one_lag S v M L W w n h =
    omega (arith, ints, h, difference_scaled S (v *ℤ pos W) w, scaled_twice v W w, scaled_sum S w n, sum_scaled (v *ℤ pos w) M W)

sum_lags_is : (W : ℕ) (S : ℤ) (es : List (ℕ × Entry)) → sum_lags W S es ≡ (S *ℤ pos (sum_weights es)) -ℤ (sum_moments es *ℤ pos W)
sum_lags_is W S [] = omega (arith, ints)
sum_lags_is W S (e ∷ es) =
    one_lag S e.1.v (sum_moments es) (sum_lags W S es) W (weight_of e.1.nice) (sum_weights es) (sum_lags_is W S es)

pub lags_balance : LagsBalance
lags_balance tasks =
    sum_lags_is (total_weight tasks) (total_moment tasks) (entries tasks) ∙ (omega (arith, ints))

-- each task of a list fails
abbrev AllFail : (Entry → Bool) → List (ℕ × Entry) → Type 0
AllFail passes [] = Unit {0}
AllFail passes (e ∷ es) = (passes e.1 ≡ false) × AllFail passes es

all_fail : (passes : Entry → Bool) (es : List (ℕ × Entry)) → AreDistinct es → NonePasses passes es → AllFail passes es
all_fail passes [] d h = tt
all_fail passes (e ∷ es) d h =
    let both = none_behind passes e es d.0 h in (both.0, all_fail passes es d.1 both.1)

past : (v S : ℤ) (W : ℕ) → int_le (v *ℤ pos W) S ≡ false → (S +ℤ pos 1) ≤ℤ (v *ℤ pos W)
past v S W h = omega (arith, ints)

one_past : (S v M : ℤ) (W w n : ℕ) → (S +ℤ pos 1) ≤ℤ (v *ℤ pos W) → ((S +ℤ pos 1) *ℤ pos n) ≤ℤ (M *ℤ pos W)
    → ((S +ℤ pos 1) *ℤ pos (w + n)) ≤ℤ (((v *ℤ pos w) +ℤ M) *ℤ pos W)
one_past S v M W w n h k =
    let a = scaled_le (S +ℤ pos 1) (v *ℤ pos W) w h in
    omega (arith, ints, a, k, scaled_twice v W w, scaled_sum (S +ℤ pos 1) w n, sum_scaled (v *ℤ pos w) M W)

all_past : (W : ℕ) (S : ℤ) (es : List (ℕ × Entry)) → AllFail (is_eligible_at W S) es → ((S +ℤ pos 1) *ℤ pos (sum_weights es)) ≤ℤ (sum_moments es *ℤ pos W)
all_past W S [] h = omega (arith, ints)
all_past W S (e ∷ es) h =
    one_past S e.1.v (sum_moments es) W (weight_of e.1.nice) (sum_weights es) (past e.1.v S W h.0) (all_past W S es h.1)

weightless : (S : ℤ) (W : ℕ) → ((S +ℤ pos 1) *ℤ pos W) ≤ℤ (S *ℤ pos W) → W ≡ 0
weightless S W h = omega (arith, ints, sum_scaled S (pos 1) W)

without_weight : (es : List (ℕ × Entry)) → sum_weights es ≡ 0 → length es ≡ 0
without_weight [] h = refl
without_weight (e ∷ es) h = let k = weight_of-least e.1.nice in absurd (omega arith)

pub no_tasks : (tasks : Tasks) → total_weight tasks ≡ 0 → tasks ≡ empty
no_tasks tasks none = empty_of_len tasks (len-entries tasks ∙ without_weight (entries tasks) none)

-- where nobody is eligible, nobody is there
pub nobody : (tasks : Tasks) → NonePasses (is_eligible tasks) (entries tasks) → tasks ≡ empty
nobody tasks h =
    let failing = all_fail (is_eligible tasks) (entries tasks) (distinct_entries tasks) h in
    no_tasks tasks (weightless (total_moment tasks) (total_weight tasks) (all_past (total_weight tasks) (total_moment tasks) (entries tasks) failing))

someone : (tasks : Tasks) (o : Option (ℕ × Entry)) → IsEarliest (is_eligible tasks) (entries tasks) o → (tasks ≡ empty → ⊥) → (t : ℕ) × ((e : Entry) × Eligible tasks t e)
someone tasks None h filled = absurd (filled (nobody tasks h))
someone tasks (Some a) h filled =
    (a.0, (a.1, record { here = get-entries tasks a.0 ∙ h.here; owed = h.passed }))

pub some_task_is_eligible : SomeTaskIsEligible
some_task_is_eligible tasks filled =
    someone tasks (earliest (is_eligible tasks) (entries tasks)) (earliest_is (is_eligible tasks) (entries tasks) (distinct_entries tasks)) filled
