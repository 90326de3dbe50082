-- What the candidate is: the latest of the tasks that don't run.
use Rattle.std.proofs.Common.{◌≡◌, ℕ, Bool, true, false, List, Option, Some, None, refl, sym, ap, subst, ◌∙◌}
use Rattle.std.specs.Prelude.{◌↔◌, IfSome, IsNone, is_some, not}
use Rattle.std.specs.Option.{option_map}
use Rattle.std.specs.FinMap.{contains_key, entries, get, get-entries}
use Rattle.eevdf_queue.specs.{declared.entry.Entry.Entry, Sums.Tasks, Order.is_before}
use Rattle.eevdf_queue.specs.Candidate.{is_running, latest_waiting, candidate_of, IsCandidate, NoneWaits}
use Rattle.eevdf_queue.proofs.{Earliest.told, Earliest.later_first, TreeCandidates.latest-joined}
use Rattle.eevdf_queue.proofs.{Foremost.IsForemost, Foremost.is_foremost, SortedEntries.distinct_entries, Picking.later_by}

-- the last that waits, by the two cases
abbrev IsLast : Option ℕ → List (ℕ × Entry) → Option (ℕ × Entry) → Type 0
IsLast r = IsForemost (λ a b. is_before b a) (λ a. not (is_running r a.0))

last_of : (tasks : Tasks) (r : Option ℕ) → IsLast r (entries tasks) (latest_waiting r (entries tasks))
last_of tasks r =
    is_foremost (λ a b. is_before b a) later_first (λ a. not (is_running r a.0)) (latest_waiting r) refl (latest-joined r) (entries tasks) (distinct_entries tasks)

waits_of : (b : Bool) → not b ≡ true → b ≡ false
waits_of true h = cc
waits_of false h = refl

last_by : (tasks : Tasks) (r : Option ℕ) (o : Option (ℕ × Entry)) → IsLast r (entries tasks) o → IfSome (option_map (λ (a : ℕ × Entry). a.0) o) (IsCandidate tasks r)
last_by tasks r None h = tt
last_by tasks r (Some a) h = record {
  entry = a.1;
  waiting = record { here = get-entries tasks a.0 ∙ h.here; waits = waits_of (is_running r a.0) h.passed };
  last = λ u f k. later_by (is_before a (u, f)) f.d a.1.d u a.0 (h.first u f (sym (get-entries tasks u) ∙ k.here) (ap not k.waits)) (told a.1.d f.d a.0 u);
}

here_by : (tasks : Tasks) (r : Option ℕ) (o : Option (ℕ × Entry)) → IsLast r (entries tasks) o → IfSome o (λ a. get tasks a.0 ≡ Some a.1)
here_by tasks r None h = tt
here_by tasks r (Some a) h = get-entries tasks a.0 ∙ h.here

-- the latest stands under its number
pub latest_here : (tasks : Tasks) (r : Option ℕ) → IfSome (latest_waiting r (entries tasks)) (λ a. get tasks a.0 ≡ Some a.1)
latest_here tasks r = here_by tasks r (latest_waiting r (entries tasks)) (last_of tasks r)

pub candidate_last : (tasks : Tasks) (r : Option ℕ) (c : Option ℕ) → c ≡ candidate_of tasks r → IfSome c (IsCandidate tasks r)
candidate_last tasks r c e =
    subst (λ (x : Option ℕ). IfSome x (IsCandidate tasks r)) (sym e) (last_by tasks r (latest_waiting r (entries tasks)) (last_of tasks r))

waits_by : (tasks : Tasks) (r : Option ℕ) (c : Option ℕ) → IfSome c (IsCandidate tasks r)
    → IfSome c (λ t. (contains_key tasks t ≡ true) × (is_running r t ≡ false))
waits_by tasks r None h = tt
waits_by tasks r (Some t) h = (ap is_some h.waiting.here, h.waiting.waits)

pub candidate_waits : (tasks : Tasks) (r : Option ℕ) (c : Option ℕ) → c ≡ candidate_of tasks r
    → IfSome c (λ t. (contains_key tasks t ≡ true) × (is_running r t ≡ false))
candidate_waits tasks r c e = waits_by tasks r c (candidate_last tasks r c e)

none_by : (tasks : Tasks) (r : Option ℕ) (o : Option (ℕ × Entry)) → IsLast r (entries tasks) o → IsNone (option_map (λ (a : ℕ × Entry). a.0) o) ↔ NoneWaits tasks r
none_by tasks r None h =
    (λ n t e k. absurd (let runs : not (is_running r t) ≡ false = h t e (sym (get-entries tasks t) ∙ k.here) in let waits = ap not k.waits in cc), λ n. refl)
none_by tasks r (Some a) h =
    (λ n. cc, λ n. absurd (n a.0 a.1 (record { here = get-entries tasks a.0 ∙ h.here; waits = waits_of (is_running r a.0) h.passed })))

pub candidate_none : (tasks : Tasks) (r : Option ℕ) (c : Option ℕ) → c ≡ candidate_of tasks r → IsNone c ↔ NoneWaits tasks r
candidate_none tasks r c e =
    subst (λ (x : Option ℕ). IsNone x ↔ NoneWaits tasks r) (sym e) (none_by tasks r (latest_waiting r (entries tasks)) (last_of tasks r))
