-- A doze and the wake after it leave the bounds of the others as they are.
use Rattle.std.proofs.Common.{◌≡◌, ℕ, Bool, true, false, cond, Option, Some, None, refl, sym, ap, ◌∙◌, subst, arith}
use Rattle.std.specs.Prelude.{ℤ, pos, ◌+ℤ◌, ◌-ℤ◌, ◌≤ℤ◌, int_lt, is_some, IfSome}
use Rattle.std.specs.{Option.option_map, Ordering.nat_cmp, FinMap.get, FinMap.empty, FinMap.get-empty, FinMap.insert, Int.int_max}
use Rattle.std.proofs.{lemmas.Int.ints, lemmas.Int.clamps}
use Rattle.eevdf_queue.specs.{declared.entry.Entry.Entry, declared.sleeper.Sleeper.Sleeper, State.State, Sums.Tasks, Sums.virtual_time}
use Rattle.eevdf_queue.specs.{Candidate.is_running, Lag.kept_lag, Placing.placement, Doze.doze, Doze.dozed, Doze.put_dozing, Wake.wake, Wake.waking_runtime}
use Rattle.eevdf_queue.specs.{Leaving.leaving, Leaving.leave, Leaving.leave_running, Leaving.without_entry, Leaving.carried, Leaving.carried_running, Laws.PickIsFirst, Laws.PickOfNobody, Pick.pick_of, Pick.IsPick}
use Rattle.eevdf_dozes.proofs.{Dozing.dozing_in, Dozing.dozing_of, Dozing.awake_entry, Dozing.wake_is, Changes.here_now, PutPast.placed_in_time}
use Rattle.eevdf_fair_queue.specs.{declared.bounds.Bounds.Bounds, declared.bounds.Mark.Mark, Bounds.advanced_where, Bounds.adopted}
use Rattle.eevdf_fair_queue.specs.{Bounds.settled, Fair.IsFair, Fair.mark_by, Fair.mark_of_pick, Fair.mark_at}
use Rattle.eevdf_fair_queue.specs.Dozers.{SleepsBehind, DozesBehind, KeepsBound, WakeKeepsBounds}
use Rattle.eevdf_fair_queue.proofs.{Arrivals.arrivals_keep_bounds, Arrivals.not_before, MeanTimes.mean_within, Orders.then}

-- ---- a doze
module _ (q : State) (task : ℕ) (e : Entry) (runs : is_running q.running task ≡ true) (here : get q.runnable task ≡ Some e) where
  left : leave_running q task ≡ without_entry q task (Some e)
  left = ap (λ (b : Bool). cond b (leave q task) q) runs ∙ ap (without_entry q task) here

  taken : carried_running q task ≡ Some (leaving task (kept_lag q e) e)
  taken = ap (λ (b : Bool). cond b (carried q task) None) runs ∙ ap (option_map (λ (x : Entry). leaving task (kept_lag q x) x)) here

  dozed_off : doze q task ≡ dozing_in q task e
  dozed_off = ap (dozed q task) taken ∙ ap (λ (r : State). put_dozing r (leaving task (kept_lag q e) e)) left

no_debt : (lag : ℤ) → pos 0 ≤ℤ int_max (pos 0) lag
no_debt lag = omega (arith, ints, clamps)

unshifted : (v shift limit : ℤ) → v ≤ℤ limit → ((v +ℤ shift) -ℤ shift) ≤ℤ limit
unshifted v shift limit h = omega (arith, ints, h)

some_by : {A : Type 0} (P : A → Type 0) (o : Option A) (x : A) → o ≡ Some x → P x → IfSome o P
some_by {A = A} P o x is h = subst (λ (y : Option A). IfSome y P) (sym is) h

pub dozes_behind : (q : State) (b : Bounds) (task : ℕ) → DozesBehind q b task
dozes_behind q b task e fair runs here =
    subst (λ (r : State). SleepsBehind r b task) (sym (dozed_off q task e runs here)) (record {
      no_debt = some_by (λ (s : Sleeper). pos 0 ≤ℤ s.lag) (get (insert q.asleep task (dozing_of q e)) task) (dozing_of q e) (here_now q.asleep task (dozing_of q e))
          (no_debt (kept_lag q e));
      place = some_by (λ (place : ℤ). (place -ℤ q.shift) ≤ℤ b.furthest) (get (insert q.places task (e.v +ℤ q.shift)) task) (e.v +ℤ q.shift)
          (here_now q.places task (e.v +ℤ q.shift)) (unshifted e.v q.shift b.furthest (fair.behind task e here));
    })

-- ---- a wake
both_behind : (place shift placed limit : ℤ) → (place -ℤ shift) ≤ℤ limit → placed ≤ℤ limit → int_max (place -ℤ shift) placed ≤ℤ limit
both_behind place shift placed limit h k = omega (arith, ints, clamps, h, k)

placed_behind : (q : State) (b : Bounds) (other : ℕ) (f : Entry) (s : Sleeper) → IsFair q b → get q.runnable other ≡ Some f → pos 0 ≤ℤ s.lag
    → placement q s ≤ℤ b.furthest
placed_behind q b other f s fair here owes =
    then (placement q s) (virtual_time q) b.furthest (placed_in_time q s owes) (mean_within q b.furthest other f here fair.behind)

wakes_behind : (q : State) (b : Bounds) (other : ℕ) (f : Entry) (s : Sleeper) (o : Option ℤ) → IsFair q b → get q.runnable other ≡ Some f → pos 0 ≤ℤ s.lag
    → IfSome o (λ place. (place -ℤ q.shift) ≤ℤ b.furthest) → waking_runtime q s o ≤ℤ b.furthest
wakes_behind q b other f s None fair here owes h = placed_behind q b other f s fair here owes
wakes_behind q b other f s (Some place) fair here owes h =
    both_behind place q.shift (placement q s) b.furthest h (placed_behind q b other f s fair here owes)

-- where somebody is runnable, there is a mark
module _ (first : PickIsFirst) (nobody : PickOfNobody) (q : State) (other : ℕ) (f : Entry) (here : get q.runnable other ≡ Some f) where
  at_pick : (p : ℕ) (o : Option Entry) → IsPick q.runnable p → get q.runnable p ≡ o → (m : Mark) × (mark_at (virtual_time q) o ≡ Some m)
  at_pick p None pick at = let there : get q.runnable p ≡ Some pick.entry = pick.eligible.here in absurd (cc)
  at_pick p (Some e) pick at = (record { v = virtual_time q; d = e.d }, refl)

  of_pick : (o : Option ℕ) → pick_of q.runnable ≡ o → (m : Mark) × (mark_of_pick q o ≡ Some m)
  of_pick None is =
      let none : q.runnable ≡ empty = (nobody q.runnable).0 (ap (λ (o : Option ℕ). is_some o) is) in
      let gone : get q.runnable other ≡ None = ap (λ (m : Tasks). get m other) none ∙ get-empty nat_cmp other in
      absurd (cc)
  of_pick (Some p) is = at_pick p (get q.runnable p) (first q.runnable p is) refl

  marked : (o : Option Entry) → (m : Mark) × (mark_by q o ≡ Some m)
  marked None = of_pick (pick_of q.runnable) refl
  marked (Some e) = (record { v = e.v; d = e.d }, refl)

-- a task that stands no further than the furthest, wherever it stood before
still_furthest : (b : Bounds) (m : Mark) (e : Entry) (early late further : Bool) → int_lt b.furthest e.v ≡ further → further ≡ false
    → (adopted (advanced_where early (cond further (record b { front = int_max b.front e.v; furthest = e.v }) b)) late).furthest ≡ b.furthest
still_furthest b m e early late true is not = absurd (cc)
still_furthest b m e false false false is not = refl
still_furthest b m e false true false is not = refl
still_furthest b m e true false false is not = refl
still_furthest b m e true true false is not = refl

stands_behind : (q : State) (b : Bounds) (other : ℕ) (f : Entry) (m : Mark) (o : Option Entry) → IsFair q b → get q.runnable other ≡ Some f
    → IfSome o (λ e. e.v ≤ℤ b.furthest) → KeepsBound b (settled b (Some m) o) f.d
stands_behind q b other f m None fair here h = record { furthest = refl; late = refl }
stands_behind q b other f m (Some e) fair here h = record {
  furthest = still_furthest b m e (int_lt e.d m.d) (int_lt m.v e.v) (int_lt b.furthest e.v) refl (not_before b.furthest e.v h);
  late = arrivals_keep_bounds q b other f fair here m e h;
}

pub wake_keeps_bounds : PickIsFirst → PickOfNobody → (q : State) (b : Bounds) (task : ℕ) → WakeKeepsBounds q b task
wake_keeps_bounds first nobody q b task other f fair sleeps here =
    let (m, is) = marked first nobody q other f here (get q.runnable task) in
    subst (λ (o : Option Mark). KeepsBound b (settled b o (get (wake q task).1.runnable task)) f.d) (sym is)
    (stands_behind q b other f m (get (wake q task).1.runnable task) fair here
    (wake_is (λ r. IfSome (get r.runnable task) (λ e. e.v ≤ℤ b.furthest)) q task (stays (get q.runnable task) refl)
    (λ s asleep. some_by (λ (e : Entry). e.v ≤ℤ b.furthest) (get (insert q.runnable task (awake_entry q task s)) task) (awake_entry q task s)
    (here_now q.runnable task (awake_entry q task s))
    (wakes_behind q b other f s (get q.places task) fair here (owes s asleep sleeps.no_debt) sleeps.place))))
  where
    stays : (o : Option Entry) → get q.runnable task ≡ o → IfSome o (λ e. e.v ≤ℤ b.furthest)
    stays None at = tt
    stays (Some e) at = fair.behind task e at

    owes : (s : Sleeper) → get q.asleep task ≡ Some s → IfSome (get q.asleep task) (λ x. pos 0 ≤ℤ x.lag) → pos 0 ≤ℤ s.lag
    owes s asleep = subst (λ (o : Option Sleeper). IfSome o (λ x. pos 0 ≤ℤ x.lag) → pos 0 ≤ℤ s.lag) (sym asleep) (λ h. h)
