-- What calls of a queue are to tasks that count and to the one that stays.
use Rattle.std.proofs.Common.{◌≡◌, ℕ, Bool, true, false, cond, Option, Some, None, refl, sym, ap, ◌∙◌, subst, arith}
use Rattle.std.specs.Prelude.{ℤ, pos, ◌+ℤ◌, ◌-ℤ◌, ◌≤ℤ◌, is_some}
use Rattle.std.specs.{Ordering.nat_cmp, Ordering.eq_by_cmp, Cmp.nat_cmp_total, Int.int_max}
use Rattle.std.specs.FinMap.{FinMap, get, insert, remove, get-insert}
use Rattle.std.proofs.{lemmas.Int.ints, lemmas.Int.clamps}
use Rattle.eevdf_queue.specs.{declared.entry.Entry.Entry, declared.sleeper.Sleeper.Sleeper, State.State, Kept.IsSound, Kept.RunnerIsHere}
use Rattle.eevdf_queue.specs.{Candidate.is_running, Leaving.stopped, Leaving.nobody_runs, Placing.placement, Doze.doze, Wake.waking_runtime, Wake.wake}
use Rattle.eevdf_queue.specs.Yield.{yield_now}
use Rattle.eevdf_queue.specs.SliceChange.{set_slice}
use Rattle.eevdf_queue.specs.Rebase.{rebase}
use Rattle.eevdf_queue.proofs.{Foremost.equal_number, Foremost.itself, Sound.gone as gone_from}
use Rattle.eevdf_dozes.specs.Places.{place_by, place_of, IsNoEarlier}
use Rattle.eevdf_dozes.specs.Stretches.{Watch, HaveLevels, Stays, RunsOn, IsChange}
use Rattle.eevdf_dozes.specs.Calls.{Touches, OthersMayBeTouched, IsDozing, DozesIfItCounts, SleepersAreAtRest, CallsAreChanges}
use Rattle.eevdf_dozes.proofs.Optional.{one_entry, no_earlier, standing}
use Rattle.eevdf_dozes.proofs.Standing.{standing_is_change, yields_stand, slices_stand, stops_stand, rebases_stand}
use Rattle.eevdf_dozes.proofs.Dozing.{dozing_in, doze_is, awake_entry, awake_in, wake_is}
use Rattle.eevdf_dozes.proofs.Touching.{doze_touches, wake_touches}

same_time : (z : ℤ) → z ≤ℤ z
same_time z = omega (arith, ints)

-- ---- a task that isn't touched stands where it stood
pub stands_still : (task t : ℕ) (q r : State) → Touches task q r → (t ≡ task → ⊥) → place_of q t ≡ place_of r t
stands_still task t q r h other =
    ap (λ (z : ℤ). place_by z (get q.places t) (get q.runnable t)) (sym h.shift)
    ∙ ap (λ (o : Option ℤ). place_by r.shift o (get q.runnable t)) (sym (h.places t other))
    ∙ ap (place_by r.shift (get r.places t)) (sym (h.runnable t other))

pub differs : (t task : ℕ) → eq_by_cmp nat_cmp t task ≡ false → t ≡ task → ⊥
differs t task is same =
    let itself_too : eq_by_cmp nat_cmp t task ≡ true = subst (λ (u : ℕ). eq_by_cmp nat_cmp t u ≡ true) same (itself t) in
    cc

pub here_now : {X : Type 0} (m : FinMap nat_cmp X) (t : ℕ) (x : X) → get (insert m t x) t ≡ Some x
here_now m t x = get-insert nat_cmp_total m t x t ∙ ap (λ (b : Bool). cond b (Some x) (get m t)) (itself t)

pub none_there : (o : Option Entry) (e : Entry) → o ≡ None → o ≡ Some e → ⊥
none_there o e none some = cc

-- what holds of the touched task, if it counts
pub record IsFine (w : Watch) (task : ℕ) (q r : State) : Type 0 where
  pub place : w.counts task ≡ true → IsNoEarlier (place_of q task) (place_of r task)
  pub runner : w.counts task ≡ true → r.running ≡ Some task → RunsOn task q r
  pub level : (e : Entry) → w.counts task ≡ true → HaveLevels w q.runnable → get r.runnable task ≡ Some e → e.nice ≡ w.nice_of task

no_change : (w : Watch) (task : ℕ) (q : State) → IsFine w task q q
no_change w task q = record {
  place = λ counts. no_earlier (place_of q task) (place_of q task) refl;
  runner = λ counts runs. record { ran = runs; no_further = no_earlier (place_of q task) (place_of q task) refl };
  level = λ e counts levels here. levels task e counts here;
}

module _ (w : Watch) (task : ℕ) (q r : State) (h : Touches task q r) (fine : IsFine w task q r) where
  stays_there : (task ≡ w.stays → ⊥) → (e : Entry) → get q.runnable w.stays ≡ Some e → Stays w.stays q r e
  stays_there other e here = record {
    entry = e;
    here = h.runnable w.stays (λ is. other (sym is)) ∙ here;
    place = ap (λ (z : ℤ). e.v +ℤ z) h.shift;
    later = subst (λ (z : ℤ). (e.d +ℤ q.shift) ≤ℤ (e.d +ℤ z)) (sym h.shift) (same_time (e.d +ℤ q.shift));
  }

  place_then : (t : ℕ) (b : Bool) → eq_by_cmp nat_cmp t task ≡ b → w.counts t ≡ true → IsNoEarlier (place_of q t) (place_of r t)
  place_then t true is counts =
      let same : t ≡ task = equal_number t task is in
      subst (λ (u : ℕ). w.counts u ≡ true → IsNoEarlier (place_of q u) (place_of r u)) (sym same) fine.place counts
  place_then t false is counts =
      no_earlier (place_of q t) (place_of r t) (stands_still task t q r h (λ same. differs t task is same))

  runner_then : (t : ℕ) (b : Bool) → eq_by_cmp nat_cmp t task ≡ b → w.counts t ≡ true → r.running ≡ Some t → RunsOn t q r
  runner_then t true is counts runs =
      let same : t ≡ task = equal_number t task is in
      subst (λ (u : ℕ). w.counts u ≡ true → r.running ≡ Some u → RunsOn u q r) (sym same) fine.runner counts runs
  runner_then t false is counts runs = record {
    ran = h.runs t (λ same. differs t task is same) runs;
    no_further = no_earlier (place_of r t) (place_of q t) (sym (stands_still task t q r h (λ same. differs t task is same)));
  }

  level_then : (t : ℕ) (b : Bool) → eq_by_cmp nat_cmp t task ≡ b → HaveLevels w q.runnable → (e : Entry) → w.counts t ≡ true
      → get r.runnable t ≡ Some e → e.nice ≡ w.nice_of t
  level_then t true is levels e counts here =
      let same : t ≡ task = equal_number t task is in
      subst (λ (u : ℕ). w.counts u ≡ true → get r.runnable u ≡ Some e → e.nice ≡ w.nice_of u) (sym same) (λ does there. fine.level e does levels there)
      counts here
  level_then t false is levels e counts here = levels t e counts (sym (h.runnable t (λ same. differs t task is same)) ∙ here)

  pub touch_is_change : (task ≡ w.stays → ⊥) → IsChange w q r
  touch_is_change other = record {
    stays = stays_there other;
    places = λ t. place_then t (eq_by_cmp nat_cmp t task) refl;
    runner = λ t. runner_then t (eq_by_cmp nat_cmp t task) refl;
    levels = λ levels t e. level_then t (eq_by_cmp nat_cmp t task) refl levels e;
    due = h.due;
  }

-- ---- one that doesn't count
pub uncounted : (b : Bool) → b ≡ false → b ≡ true → ⊥
uncounted b not does = cc

pub others_may_be_touched : OthersMayBeTouched
others_may_be_touched w q r task not other h =
    touch_is_change w task q r h
    (record {
      place = λ counts. absurd (uncounted (w.counts task) not counts);
      runner = λ counts. absurd (uncounted (w.counts task) not counts);
      level = λ e counts. absurd (uncounted (w.counts task) not counts);
    })
    other

-- ---- a doze
-- who runs where nobody does
pub nobody_is : (running : Option ℕ) (t : ℕ) → running ≡ None → running ≡ Some t → ⊥
nobody_is running t none some = cc

pub stopped_is : (running : Option ℕ) (task : ℕ) → is_running running task ≡ true → stopped running task ≡ None
stopped_is running task is = ap (λ (b : Bool). cond b None running) is

-- it stays at its place
dozing_there : (q : State) (task : ℕ) (e : Entry) → get q.runnable task ≡ Some e → place_of q task ≡ place_of (dozing_in q task e) task
dozing_there q task e here =
    standing q.shift (get q.places task) (get q.runnable task) e here
    ∙ sym (ap (place_by q.shift (get (insert q.places task (e.v +ℤ q.shift)) task)) (gone_from q.runnable task) ∙ here_now q.places task (e.v +ℤ q.shift))

pub doze_there : (q : State) (task : ℕ) → place_of q task ≡ place_of (doze q task) task
doze_there q task = doze_is (λ r. place_of q task ≡ place_of r task) q task refl (λ e runs here. dozing_there q task e here)

dozing_fine : (w : Watch) (q : State) (task : ℕ) (e : Entry) → is_running q.running task ≡ true → get q.runnable task ≡ Some e → IsFine w task q (dozing_in q task e)
dozing_fine w q task e runs here = record {
  place = λ counts. no_earlier (place_of q task) (place_of (dozing_in q task e) task) (dozing_there q task e here);
  runner = λ counts is. absurd (nobody_is (stopped q.running task) task (stopped_is q.running task runs) is);
  level = λ f counts levels there. absurd (none_there (get (remove q.runnable task) task) f (gone_from q.runnable task) there);
}

dozes : (w : Watch) (q : State) (task : ℕ) → (task ≡ w.stays → ⊥) → IsChange w q (doze q task)
dozes w q task =
    touch_is_change w task q (doze q task) (doze_touches q task)
    (doze_is (IsFine w task q) q task (no_change w task q) (λ e runs here. dozing_fine w q task e runs here))

-- ---- its wake
-- one that sleeps isn't runnable, and doesn't run
at_rest : (q : State) (task : ℕ) (s : Sleeper) → IsSound q → get q.asleep task ≡ Some s → get q.runnable task ≡ None
at_rest q task s sound asleep = by (get q.runnable task) refl
  where
    by : (o : Option Entry) → get q.runnable task ≡ o → o ≡ None
    by None is = refl
    by (Some e) is =
        let none : get q.asleep task ≡ None = sound.apart task (ap is_some is) in
        cc

not_running : (q : State) (task : ℕ) → IsSound q → get q.runnable task ≡ None → q.running ≡ Some task → ⊥
not_running q task sound none runs =
    let here : is_some (get q.runnable task) ≡ true = subst (RunnerIsHere q.runnable) runs sound.runs in
    let absent : is_some (get q.runnable task) ≡ false = ap is_some none in
    cc

not_before : (o now : Option ℤ) (a b : ℤ) → o ≡ Some a → now ≡ Some b → a ≤ℤ b → IsNoEarlier o now
not_before None now a b h k l = cc
not_before (Some x) None a b h k l = cc
not_before (Some x) (Some y) a b h k l =
    let one : x ≡ a = cc in
    let other : y ≡ b = cc in
    omega (arith, ints, one, other, l)

later_of_both : (place shift placed : ℤ) → place ≤ℤ (int_max (place -ℤ shift) placed +ℤ shift)
later_of_both place shift placed = omega (arith, ints, clamps)

pub sleepers_are_at_rest : SleepersAreAtRest
sleepers_are_at_rest q task s sound asleep =
    let none : get q.runnable task ≡ None = at_rest q task s sound asleep in
    record { not_runnable = none; not_running = not_running q task sound none }

module _ (w : Watch) (q : State) (task : ℕ) (s : Sleeper) (dozing_if : w.counts task ≡ true → IsDozing w q task s) where
  abbrev entry : Entry
  entry = awake_entry q task s

  now : get (awake_in q task s).runnable task ≡ Some entry
  now = here_now q.runnable task entry

  awake_fine : IsFine w task q (awake_in q task s)
  awake_fine = record {
    place = λ counts.
        let d : IsDozing w q task s = dozing_if counts in
        let before : place_of q task ≡ Some d.place = ap (place_by q.shift (get q.places task)) d.not_runnable ∙ d.kept in
        let after : place_of (awake_in q task s) task ≡ Some (entry.v +ℤ q.shift) =
        standing q.shift (get (remove q.places task) task) (get (awake_in q task s).runnable task) entry now in
        let later : d.place ≤ℤ (entry.v +ℤ q.shift) =
        subst (λ (x : Option ℤ). d.place ≤ℤ (waking_runtime q s x +ℤ q.shift)) (sym d.kept) (later_of_both d.place q.shift (placement q s)) in
        not_before (place_of q task) (place_of (awake_in q task s) task) d.place (entry.v +ℤ q.shift) before after later;
    runner = λ counts runs. absurd ((dozing_if counts).not_running runs);
    level = λ f counts levels here.
        let same : entry ≡ f = one_entry entry f (get (awake_in q task s).runnable task) now here in
        subst (λ (x : Entry). x.nice ≡ w.nice_of task) same (dozing_if counts).level;
  }

wakes : (w : Watch) (q : State) (task : ℕ) → (task ≡ w.stays → ⊥) → DozesIfItCounts w q task → IsChange w q (wake q task).1
wakes w q task other dozing_if =
    touch_is_change w task q (wake q task).1 (wake_touches q task)
    (wake_is (IsFine w task q) q task (no_change w task q) (λ s asleep. awake_fine w q task s (λ counts. dozing_if s counts asleep))) other

pub calls_are_changes : CallsAreChanges
calls_are_changes = record {
  dozes = dozes;
  wakes = wakes;
  yields = λ w q. standing_is_change w q (yield_now q).1 (pos 0) (yields_stand q);
  slices = λ w q task slice. standing_is_change w q (set_slice q task slice) (pos 0) (slices_stand q task slice);
  stops = λ w q. standing_is_change w q (nobody_runs q) (pos 0) (stops_stand q);
  rebases = λ w q. standing_is_change w q (rebase q).1 (rebase q).0 (rebases_stand q);
}
