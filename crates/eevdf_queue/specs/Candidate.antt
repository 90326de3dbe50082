-- Which task another CPU may pull: of those that don't run the one of latest deadline, ties by number.
use Rattle.std.specs.Prelude.{◌≡◌, ℕ, ◌==◌, Bool, false, List, [], ◌∷◌, if◌then◌else◌, Option, Some, None}
use Rattle.std.specs.Option.{option_map}
use Rattle.std.specs.FinMap as map
use Rattle.eevdf_queue.specs.{declared.entry.Entry.Entry, Sums.Tasks, Order.is_before, Pick.IsNoLater}

abbrev pub is_running : Option ℕ → ℕ → Bool
is_running None task = false
is_running (Some running) task = task == running

abbrev pub later : ℕ × Entry → Option (ℕ × Entry) → ℕ × Entry
later a None = a
later a (Some b) = if is_before a b then b else a

-- the last by deadline and number of those that don't run
abbrev pub latest_waiting : Option ℕ → List (ℕ × Entry) → Option (ℕ × Entry)
latest_waiting running [] = None
latest_waiting running (a ∷ es) =
    if is_running running a.0 then latest_waiting running es else Some (later a (latest_waiting running es))

-- the number of the candidate, by a scan
abbrev pub candidate_of : Tasks → Option ℕ → Option ℕ
candidate_of tasks running = option_map (λ (a : ℕ × Entry). a.0) (latest_waiting running (map.entries tasks))

-- the task is runnable with this entry, and doesn't run
pub record Waiting (tasks : Tasks) (running : Option ℕ) (task : ℕ) (e : Entry) : Type 0 where
  pub here : map.get tasks task ≡ Some e
  pub waits : is_running running task ≡ false

-- the candidate: a waiting task such that no waiting task is later
pub record IsCandidate (tasks : Tasks) (running : Option ℕ) (task : ℕ) : Type 0 where
  pub entry : Entry
  pub waiting : Waiting tasks running task entry
  pub last : (u : ℕ) (f : Entry) → Waiting tasks running u f → IsNoLater u f task entry

-- no task waits
abbrev pub NoneWaits : Tasks → Option ℕ → Type 0
NoneWaits tasks running = (t : ℕ) (e : Entry) → Waiting tasks running t e → ⊥
