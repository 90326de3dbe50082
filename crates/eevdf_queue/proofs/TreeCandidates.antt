-- The latest of the waiting tasks is the same, in whatever order they are asked.
use Rattle.std.proofs.Common.{◌≡◌, ◌≢◌, ℕ, Bool, true, false, cond, List, ◌∷◌, Option, Some, refl, sym, ap, ◌∙◌}
use Rattle.std.specs.{Prelude.not, Ordering.nat_cmp, FinMap.FinMap, FinMap.entries}
use Rattle.eevdf_queue.specs.{declared.entry.Entry.Entry, declared.task.Task.Task, Order.is_before}
use Rattle.eevdf_queue.specs.TaskLists.{entries_of, runnable_in, AreRunnable}
use Rattle.eevdf_queue.specs.Candidate.{is_running, later, latest_waiting}
use Rattle.eevdf_queue.proofs.{Earliest.later_first, MapFolds.fold-from_entries, ListMaps.numbered_runnable}
use Rattle.eevdf_queue.proofs.ListMaps.{distinct_entries_of}
use Rattle.eevdf_queue.proofs.Foremost as by

-- one more task that may wait
abbrev pub joined : Option ℕ → ℕ × Entry → Option (ℕ × Entry) → Option (ℕ × Entry)
joined r = by.taken (λ a b. is_before b a) (λ a. not (is_running r a.0))

joined_by : (b : Bool) (x y : Option (ℕ × Entry)) → cond b x y ≡ cond (not b) y x
joined_by true x y = refl
joined_by false x y = refl

pub latest-joined : (r : Option ℕ) (e : ℕ × Entry) (es : List (ℕ × Entry)) → latest_waiting r (e ∷ es) ≡ joined r e (latest_waiting r es)
latest-joined r e es = joined_by (is_running r e.0) (latest_waiting r es) (Some (later e (latest_waiting r es)))

pub joined-swap : (r : Option ℕ) (a b : ℕ × Entry) (x : Option (ℕ × Entry)) → a.0 ≢ b.0 → joined r a (joined r b x) ≡ joined r b (joined r a x)
joined-swap r = by.taken-swap (λ a b. is_before b a) later_first (λ a. not (is_running r a.0))

pub latest-runnable_in : (r : Option ℕ) (ts : List Task) → AreRunnable ts → latest_waiting r (entries (runnable_in ts)) ≡ latest_waiting r (entries_of ts)
unfolding runnable_in
latest-runnable_in r ts h =
    fold-from_entries (latest_waiting r) (joined r)
    (latest-joined r)
    (joined-swap r)
    (entries_of ts) (distinct_entries_of ts (numbered_runnable ts h))

pub latest_is : (r : Option ℕ) (ts : List Task) (m : FinMap nat_cmp Entry) (o : Option (ℕ × Entry)) → AreRunnable ts → runnable_in ts ≡ m
    → o ≡ latest_waiting r (entries_of ts) → o ≡ latest_waiting r (entries m)
latest_is r ts m o h v e =
    e ∙ sym (latest-runnable_in r ts h) ∙ ap (λ (z : FinMap nat_cmp Entry). latest_waiting r (entries z)) v
