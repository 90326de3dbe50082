-- Who is picked isn't past the deadline of any runnable task.
use Rattle.std.proofs.Common.{◌≡◌, ℕ, Bool, true, false, Option, Some, None, refl, ap, ◌∙◌, inl, inr, arith}
use Rattle.std.specs.Prelude.{ℤ, ◌≤ℤ◌, is_some}
use Rattle.std.specs.{Ordering.nat_cmp, FinMap.get, FinMap.empty, FinMap.get-empty}
use Rattle.std.proofs.lemmas.Int.{ints}
use Rattle.eevdf_queue.specs.{declared.entry.Entry.Entry, State.State, Laws.PickIsFirst, Laws.PickOfNobody}
use Rattle.eevdf_queue.specs.Sums.{Tasks, total_weight, total_moment}
use Rattle.eevdf_queue.specs.Pick.{IsNoLater, IsPick, is_eligible, pick_of, picked_by, after_pick}
use Rattle.eevdf_queue.specs.Tick.{tick}
use Rattle.eevdf_fairness.proofs.{RestOfQueue.pick_rest, RestOfQueue.tick_rest, Turning.not_past_one, Inequalities.le_then}
use Rattle.eevdf_dozes.specs.{Places.place_of, Stretches.NoneIsPastDue}

no_later : (v d e : ℤ) (p u : ℕ) (x f : Entry) → v ≤ℤ d → x.d ≡ d → f.d ≡ e → IsNoLater p x u f → v ≤ℤ e
no_later v d e p u x f h i j (inl k) = omega (arith, ints, h, i, j, k)
no_later v d e p u x f h i j (inr k) = omega (arith, ints, h, i, j, k.0)

in_time_by : (tasks : Tasks) (p : ℕ) (pick : IsPick tasks p) → NoneIsPastDue tasks → (u : ℕ) (f : Entry) → get tasks u ≡ Some f
    → (b : Bool) → is_eligible tasks f ≡ b → pick.entry.v ≤ℤ f.d
in_time_by tasks p pick due u f here true is =
    no_later pick.entry.v pick.entry.d f.d p u pick.entry f (due p pick.entry pick.eligible.here) refl refl (pick.first u f (record { here = here; owed = is }))
in_time_by tasks p pick due u f here false is =
    le_then pick.entry.v f.v f.d (not_past_one pick.entry.v f.v (total_moment tasks) (total_weight tasks) pick.eligible.owed is) (due u f here)

-- ---- the queue after a pick
pub same_tasks : (q : State) (o : Option ℕ) → (picked_by q o).runnable ≡ q.runnable
same_tasks q None = refl
same_tasks q (Some p) = refl

stands_by : (q : State) (o : Option ℕ) (t : ℕ) → place_of (picked_by q o) t ≡ place_of q t
stands_by q None t = refl
stands_by q (Some p) t = refl

pub pick_stands : (q : State) (t : ℕ) → place_of (after_pick q) t ≡ place_of q t
pick_stands q t = stands_by q (pick_of q.runnable) t

pub pick_shift : (q : State) → (after_pick q).shift ≡ q.shift
pick_shift q = (pick_rest q (pick_of q.runnable)).shift

pub tick_shift : (q : State) (ns : ℕ) → (tick q ns).1.shift ≡ q.shift
tick_shift q ns = (tick_rest q ns q.running).shift

-- where some task is runnable, who runs after a pick is the pick
picked_runs : PickOfNobody → (q : State) (u t : ℕ) (f : Entry) → get q.runnable u ≡ Some f → (o : Option ℕ) → pick_of q.runnable ≡ o
    → (picked_by q o).running ≡ Some t → pick_of q.runnable ≡ Some t
picked_runs nobody q u t f here None is runs =
    let none : q.runnable ≡ empty = (nobody q.runnable).0 (ap (λ (o : Option ℕ). is_some o) is) in
    let absent : get q.runnable u ≡ None = ap (λ (m : Tasks). get m u) none ∙ get-empty nat_cmp u in
    cc
picked_runs nobody q u t f here (Some p) is runs = is ∙ runs

-- a task is runnable, and isn't past a time
pub record IsInTime (tasks : Tasks) (task : ℕ) (time : ℤ) : Type 0 where
  pub entry : Entry
  pub here : get tasks task ≡ Some entry
  pub timely : entry.v ≤ℤ time

pub runner_in_time : PickIsFirst → PickOfNobody → (q : State) (u t : ℕ) (f : Entry) → NoneIsPastDue q.runnable → get q.runnable u ≡ Some f
    → (after_pick q).running ≡ Some t → IsInTime q.runnable t f.d
runner_in_time first nobody q u t f due here runs =
    let pick : IsPick q.runnable t = first q.runnable t (picked_runs nobody q u t f here (pick_of q.runnable) refl runs) in
    record {
      entry = pick.entry;
      here = pick.eligible.here;
      timely = in_time_by q.runnable t pick due u f here (is_eligible q.runnable f) refl;
    }
