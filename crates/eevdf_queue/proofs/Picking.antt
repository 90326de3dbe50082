-- What is picked: the earliest of those that pass.
use Rattle.std.proofs.Common.{◌≡◌, ℕ, ◌<◌, ◌≤◌, Bool, true, false, List, ◌∷◌, Option, Some, None, refl, sym, subst, ◌∙◌, arith}
use Rattle.std.specs.Prelude.{ℤ, ◌<ℤ◌, ◌⊎◌}
use Rattle.std.specs.{Option.option_map}
use Rattle.std.specs.Ordering.{nat_cmp}
use Rattle.std.specs.FinMap.{entries, find, get-entries}
use Rattle.std.proofs.lemmas.Int.{ints}
use Rattle.eevdf_queue.specs.{declared.entry.Entry.Entry, Sums.Tasks, Order.is_before, Order.earliest}
use Rattle.eevdf_queue.specs.Pick.{IsPick, is_eligible, pick_of}
use Rattle.eevdf_queue.proofs.{SortedEntries.distinct_entries, MapFolds.AreDistinct, Earliest.told, Earliest.earlier_first}
use Rattle.eevdf_queue.proofs.Foremost.{IsForemost, is_foremost, head, behind}

-- none of a list passes
abbrev pub NonePasses : (Entry → Bool) → List (ℕ × Entry) → Type 0
NonePasses passes es = IsForemost is_before (λ e. passes e.1) es None

-- what the earliest is, by the two cases
abbrev pub IsEarliest : (Entry → Bool) → List (ℕ × Entry) → Option (ℕ × Entry) → Type 0
IsEarliest passes = IsForemost is_before (λ e. passes e.1)

pub earliest_is : (passes : Entry → Bool) (es : List (ℕ × Entry)) → AreDistinct es → IsEarliest passes es (earliest passes es)
earliest_is passes = is_foremost is_before earlier_first (λ e. passes e.1) (earliest passes) refl (λ e es. refl)

-- where none passes, the head fails and none behind it passes
pub none_behind : (passes : Entry → Bool) (e : ℕ × Entry) (es : List (ℕ × Entry)) → find nat_cmp e.0 es ≡ None → NonePasses passes (e ∷ es)
    → (passes e.1 ≡ false) × NonePasses passes es
none_behind passes e es none h = (h e.0 e.1 (head e es), λ u f found. h u f (behind e (u, f) es none found))

pub later_by : (v : Bool) (d e : ℤ) (t u : ℕ) → v ≡ false → ((v ≡ true) × ((e <ℤ d) ⊎ ((e ≡ d) × (u < t)))) ⊎ ((v ≡ false) × ((d <ℤ e) ⊎ ((e ≡ d) × (t ≤ u))))
    → (d <ℤ e) ⊎ ((d ≡ e) × (t ≤ u))
later_by v d e t u h k = grind (arith, ints)

pick_by : (tasks : Tasks) (t : ℕ) (o : Option (ℕ × Entry)) → IsEarliest (is_eligible tasks) (entries tasks) o → option_map (λ (a : ℕ × Entry). a.0) o ≡ Some t → IsPick tasks t
pick_by tasks t None h e = cc
pick_by tasks t (Some a) h e =
    let same : a.0 ≡ t = cc in
    subst (IsPick tasks) same (record {
      entry = a.1;
      eligible = record { here = get-entries tasks a.0 ∙ h.here; owed = h.passed };
      first = λ u f k. later_by (is_before (u, f) a) a.1.d f.d a.0 u (h.first u f (sym (get-entries tasks u) ∙ k.here) k.owed) (told f.d a.1.d u a.0);
    })

pub pick_is : (tasks : Tasks) (t : ℕ) → pick_of tasks ≡ Some t → IsPick tasks t
pick_is tasks t e =
    pick_by tasks t (earliest (is_eligible tasks) (entries tasks)) (earliest_is (is_eligible tasks) (entries tasks) (distinct_entries tasks)) e
