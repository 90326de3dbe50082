-- What a doze has of a sleep, and its wake of a wake.
use Rattle.std.proofs.Common.{◌≡◌, ℕ, Bool, true, false, cond, Option, Some, None, refl, sym, ap, ◌∙◌, arith}
use Rattle.std.specs.Prelude.{ℤ, pos, ◌+ℤ◌, ◌≤ℤ◌}
use Rattle.std.specs.{Option.option_map, Int.int_max}
use Rattle.std.specs.FinMap.{get, insert}
use Rattle.std.proofs.{lemmas.Int.ints, lemmas.Int.clamps}
use Rattle.eevdf_queue.specs.{declared.entry.Entry.Entry, declared.sleeper.Sleeper.Sleeper, State.State, State.Contents}
use Rattle.eevdf_queue.specs.{Candidate.is_running, Lag.kept_lag, Moves.put_asleep, Moves.with_runnable, Doze.put_dozing, Doze.dozed}
use Rattle.eevdf_queue.specs.Leaving.{leaving, leave_running, without_entry}
use Rattle.eevdf_queue.specs.Wake.{waking_entry, wake_to, wake_sleeper}
use Rattle.eevdf_dozes.specs.Calls.{DozesAreSleeps}

-- ---- a doze
no_debt : (lag : ℤ) → pos 0 ≤ℤ lag → int_max (pos 0) lag ≡ lag
no_debt lag h = omega (arith, ints, clamps, h)

-- whoever leaves, the places and the shift stay
left_places : (q : State) (task : ℕ) (o : Option Entry) (b : Bool) (z : ℤ) (p : Contents)
    → record (put_asleep (cond b (without_entry q task o) q) p) { places = insert (cond b (without_entry q task o) q).places task (z +ℤ (cond b (without_entry q task o) q).shift) }
    ≡ record (put_asleep (cond b (without_entry q task o) q) p) { places = insert q.places task (z +ℤ q.shift) }
left_places q task None true z p = refl
left_places q task (Some e) true z p = refl
left_places q task o false z p = refl

slept_by : (q : State) (task : ℕ) (e : Entry) (p : Contents) → leaving task (kept_lag q e) e ≡ p → pos 0 ≤ℤ p.lag
    → put_dozing (leave_running q task) p ≡ record (put_asleep (leave_running q task) p) { places = insert q.places task (p.start +ℤ q.shift) }
slept_by q task e p same owed =
    let r : State = leave_running q task in
    ap (λ (z : ℤ). record r { asleep = insert r.asleep p.task (record { lag = z; nice = p.nice; slice = p.slice }); places = insert r.places p.task (p.start +ℤ r.shift) }) (no_debt p.lag owed)
    ∙ ap (λ (t : ℕ). record (put_asleep r p) { places = insert r.places t (p.start +ℤ r.shift) }) (sym (ap (λ (c : Contents). c.task) same))
    ∙ left_places q task (get q.runnable task) (is_running q.running task) p.start p

doze_by : (q : State) (task : ℕ) (b : Bool) (o : Option Entry) (p : Contents) → cond b (option_map (λ (e : Entry). leaving task (kept_lag q e) e) o) None ≡ Some p
    → pos 0 ≤ℤ p.lag → dozed q task (cond b (option_map (λ (e : Entry). leaving task (kept_lag q e) e) o) None)
    ≡ record (put_asleep (leave_running q task) p) { places = insert q.places task (p.start +ℤ q.shift) }
doze_by q task true None p is owed = cc
doze_by q task true (Some e) p is owed =
    let same : leaving task (kept_lag q e) e ≡ p = cc in
    ap (put_dozing (leave_running q task)) same ∙ slept_by q task e p same owed
doze_by q task false o p is owed = cc

-- ---- a wake
wake_by : (q : State) (task : ℕ) (s : Sleeper) (o : Option Sleeper) → o ≡ Some s → get q.places task ≡ None
    → wake_sleeper q task o ≡ wake_to q task (with_runnable q task (waking_entry q s None))
wake_by q task s o is none =
    ap (wake_sleeper q task) is ∙ ap (λ (place : Option ℤ). wake_to q task (with_runnable q task (waking_entry q s place))) none

pub dozes_are_sleeps : DozesAreSleeps
dozes_are_sleeps = record {
  dozes = λ q task p is owed. doze_by q task (is_running q.running task) (get q.runnable task) p is owed;
  runs_on = λ q task is. ap (dozed q task) is;
  wakes = λ q task s is none. wake_by q task s (get q.asleep task) is none;
  is_awake = λ q task is. ap (wake_sleeper q task) is;
}
