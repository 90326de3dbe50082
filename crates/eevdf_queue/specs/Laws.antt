-- Laws of the model of a queue.
use Rattle.std.specs.Prelude.{◌≡◌, ◌↔◌, ℕ, ◌*◌, ◌^◌, ◌<◌, ◌≤◌, ℤ, pos, ◌+ℤ◌, ◌-ℤ◌, ◌*ℤ◌, unsigned_abs, List, [], ◌∷◌, Some, IsNone}
use Rattle.std.specs.FinMap as map
use Rattle.eevdf_weight.specs.Weight.{weight_of}
use Rattle.eevdf_queue.specs.{declared.entry.Entry.Entry, Numbers.number_limit, State.View}
use Rattle.eevdf_queue.specs.Sums.{Tasks, total_weight, total_moment}
use Rattle.eevdf_queue.specs.Pick.{Eligible, IsPick, pick_of, view_after_pick}

-- the sum of weight times lag, where a lag is the mean less the virtual runtime; the mean is a quotient, so
-- all lags stand times the total weight
abbrev pub sum_lags : ℕ → ℤ → List (ℕ × Entry) → ℤ
sum_lags weight moment [] = pos 0
sum_lags weight moment (e ∷ es) =
    ((moment -ℤ (e.1.v *ℤ pos weight)) *ℤ pos (weight_of e.1.nice)) +ℤ sum_lags weight moment es

-- the weighted lags of the runnable tasks balance
abbrev pub LagsBalance : Type 0
LagsBalance =
    (tasks : Tasks) → sum_lags (total_weight tasks) (total_moment tasks) (map.entries tasks) ≡ pos 0

-- where some task is runnable, some task is eligible
abbrev pub SomeTaskIsEligible : Type 0
SomeTaskIsEligible =
    (tasks : Tasks) → (tasks ≡ map.empty → ⊥) → (t : ℕ) × ((e : Entry) × Eligible tasks t e)

-- the task that the scan answers is the pick
abbrev pub PickIsFirst : Type 0
PickIsFirst = (tasks : Tasks) (task : ℕ) → pick_of tasks ≡ Some task → IsPick tasks task

-- the scan answers none exactly where nothing is runnable
abbrev pub PickOfNobody : Type 0
PickOfNobody = (tasks : Tasks) → IsNone (pick_of tasks) ↔ (tasks ≡ map.empty)

-- a second pick leaves what is seen of a queue as the first left it
abbrev pub SecondPickChangesNothing : Type 0
SecondPickChangesNothing = (w : View) → view_after_pick (view_after_pick w) ≡ view_after_pick w

-- the total weight `W` is at most 1024 greatest weights, and the sum `S` of weight times virtual runtime at
-- most `2 ^ 60 * W`; so `S` and each `v * W` that is compared with it are below `2 ^ 88`
pub record AreSumsSmall (tasks : Tasks) : Type 0 where
  pub weight : total_weight tasks ≤ 88761 * number_limit
  pub moment : unsigned_abs (total_moment tasks) ≤ 2 ^ 60 * total_weight tasks
  pub sum : unsigned_abs (total_moment tasks) < 2 ^ 88
  pub compared : (t : ℕ) (e : Entry) → map.get tasks t ≡ Some e → unsigned_abs (e.v *ℤ pos (total_weight tasks)) < 2 ^ 88
