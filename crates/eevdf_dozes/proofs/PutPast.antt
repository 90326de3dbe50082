-- No call puts a task that counts past where one of them stood.
use Rattle.std.proofs.Common.{◌≡◌, ℕ, ◌+◌, ◌≤◌, Bool, true, false, cond, Option, Some, refl, sym, ap, ◌∙◌, subst, arith}
use Rattle.std.specs.Prelude.{ℤ, pos, negsuc, ◌+ℤ◌, ◌-ℤ◌, ◌*ℤ◌, ◌≤ℤ◌, ◌==◌, is_some}
use Rattle.std.specs.{Ordering.nat_cmp, Ordering.eq_by_cmp, Int.int_max}
use Rattle.std.specs.FinMap.{get, remove}
use Rattle.std.proofs.{lemmas.Int.ints, lemmas.Int.clamps}
use Rattle.eevdf_weight.specs.{Weight.weight_of, Placement.floor_div, Placement.placement_of}
use Rattle.eevdf_weight.proofs.Weighing.{weight_of-least}
use Rattle.eevdf_queue.specs.{declared.entry.Entry.Entry, declared.sleeper.Sleeper.Sleeper, State.State, Placing.placement, Doze.doze, Wake.waking_runtime, Wake.wake}
use Rattle.eevdf_queue.specs.Sums.{total_weight, total_moment, virtual_time}
use Rattle.eevdf_queue.specs.{Yield.yield_now, SliceChange.set_slice, Leaving.nobody_runs, Rebase.rebase}
use Rattle.eevdf_queue.proofs.{Foremost.equal_number, Floors.not_above, Floors.no_more, Scaled.scaled_le}
use Rattle.eevdf_fairness.proofs.{EntrySums.no_heavier, Days.mean_is}
use Rattle.eevdf_dozes.specs.Places.{place_by, place_of}
use Rattle.eevdf_dozes.specs.{Stretches.Watch, Punctual.NoneStandsPast, Punctual.AllCount}
use Rattle.eevdf_dozes.specs.Calls.{Touches, PutsNonePast, IsDozing, DozesIfItCounts, CallsPutNonePast}
use Rattle.eevdf_dozes.proofs.{Optional.one_place, Optional.there, Optional.standing, Punctual.time_within}
use Rattle.eevdf_dozes.proofs.Standing.{AllStand, same_place, yields_stand, slices_stand, stops_stand, rebases_stand}
use Rattle.eevdf_dozes.proofs.Dozing.{awake_entry, awake_in, wake_is}
use Rattle.eevdf_dozes.proofs.Touching.{doze_touches, wake_touches}
use Rattle.eevdf_dozes.proofs.Changes.{differs, here_now, stands_still, uncounted, doze_there}

-- where all stand as before, or all but one that stands within the limit
by_same : (w : Watch) (q r : State) → ((t : ℕ) → place_of q t ≡ place_of r t) → PutsNonePast w q r
by_same w q r same limit none t place counts at = none t place counts (same t ∙ at)

pub by_stand : (w : Watch) (q r : State) (by : ℤ) → AllStand q r by → PutsNonePast w q r
by_stand w q r by h = by_same w q r (λ t. same_place q r by t h)

but_one : (w : Watch) (task : ℕ) (q r : State) (limit : ℤ) → Touches task q r → NoneStandsPast w limit q
    → ((place : ℤ) → w.counts task ≡ true → place_of r task ≡ Some place → place ≤ℤ limit) → NoneStandsPast w limit r
but_one w task q r limit h none one t place counts at =
    by (eq_by_cmp nat_cmp t task) refl
  where
    by : (b : Bool) → eq_by_cmp nat_cmp t task ≡ b → place ≤ℤ limit
    by true is =
        let same : t ≡ task = equal_number t task is in
        subst (λ (u : ℕ). (z : ℤ) → w.counts u ≡ true → place_of r u ≡ Some z → z ≤ℤ limit) (sym same) one place counts at
    by false is = none t place counts (stands_still task t q r h (differs t task is) ∙ at)

others : (w : Watch) (q r : State) (task : ℕ) → w.counts task ≡ false → Touches task q r → PutsNonePast w q r
others w q r task not h limit none = but_one w task q r limit h none (λ place counts at. absurd (uncounted (w.counts task) not counts))

dozes : (w : Watch) (q : State) (task : ℕ) → PutsNonePast w q (doze q task)
dozes w q task limit none =
    but_one w task q (doze q task) limit (doze_touches q task) none (λ place counts at. none task place counts (doze_there q task ∙ at))

-- ---- a credit places no later than the virtual time
not_negative : (z : ℤ) (n : ℕ) → pos 0 ≤ℤ z → pos 0 ≤ℤ floor_div z n
not_negative (pos a) n h = omega (arith, ints)
not_negative (negsuc a) n h = absurd (omega (arith, ints, h))

placed_before : (time lag : ℤ) (total weight : ℕ) → pos 0 ≤ℤ lag → placement_of time total lag weight ≤ℤ time
placed_before time lag total weight h =
    let scaled : pos 0 ≤ℤ (lag *ℤ pos (total + weight)) = omega (arith, ints, scaled_le (pos 0) lag (total + weight) h) in
    let some = not_negative (lag *ℤ pos (total + weight)) total scaled in
    omega (arith, ints, some)

same_time : (z : ℤ) → z ≤ℤ z
same_time z = omega (arith, ints)

runtime_by : (time lag nice : ℤ) (total : ℕ) (b : Bool) → pos 0 ≤ℤ lag
    → cond b time (placement_of time total lag (weight_of nice)) ≤ℤ time
runtime_by time lag nice total true h = same_time time
runtime_by time lag nice total false h = placed_before time lag total (weight_of nice) h

pub placed_in_time : (q : State) (s : Sleeper) → pos 0 ≤ℤ s.lag → placement q s ≤ℤ virtual_time q
placed_in_time q s h = runtime_by (virtual_time q) s.lag s.nice (total_weight q.runnable) (total_weight q.runnable == 0) h

-- ---- and the virtual time isn't past where all stand
not_over : (a c z : ℤ) (n : ℕ) → 1 ≤ n → (a *ℤ pos n) ≤ℤ z → z ≤ℤ (c *ℤ pos n) → a ≤ℤ c
not_over a c z n some h k = no_more a c z n h (omega (arith, ints, some, k))

time_before : (q : State) (time : ℤ) → 1 ≤ total_weight q.runnable → total_moment q.runnable ≤ℤ (time *ℤ pos (total_weight q.runnable))
    → virtual_time q ≤ℤ time
time_before q time some h =
    subst (λ (z : ℤ). z ≤ℤ time) (sym (mean_is q some))
    (not_over (floor_div (total_moment q.runnable) (total_weight q.runnable)) time (total_moment q.runnable) (total_weight q.runnable) some
    (not_above (total_moment q.runnable) (total_weight q.runnable) some) h)

unshifted : (v shift limit : ℤ) → (v +ℤ shift) ≤ℤ limit → v ≤ℤ (limit -ℤ shift)
unshifted v shift limit h = omega (arith, ints, h)

pub some_weight : (w n : ℕ) → 15 ≤ w → w ≤ n → 1 ≤ n
some_weight w n h k = omega (arith, h, k)

time_in : (w : Watch) (q : State) (limit : ℤ) → is_some (get q.runnable w.stays) ≡ true → AllCount w q.runnable
    → NoneStandsPast w limit q → virtual_time q ≤ℤ (limit -ℤ q.shift)
time_in w q limit here all none =
    let stay = there (get q.runnable w.stays) here in
    time_before q (limit -ℤ q.shift)
    (some_weight (weight_of (stay.0.nice)) (total_weight q.runnable) (weight_of-least stay.0.nice) (no_heavier q.runnable w.stays stay.0 stay.1))
    (time_within q.runnable (limit -ℤ q.shift) (λ t e at.
    unshifted e.v q.shift limit
    (none t (e.v +ℤ q.shift) (all t e at) (standing q.shift (get q.places t) (get q.runnable t) e at))))

-- ---- a wake
of_both : (place shift placed time limit : ℤ) → place ≤ℤ limit → placed ≤ℤ time → time ≤ℤ (limit -ℤ shift) → (int_max (place -ℤ shift) placed +ℤ shift) ≤ℤ limit
of_both place shift placed time limit h k l = omega (arith, ints, clamps, h, k, l)

module _ (w : Watch) (q : State) (task : ℕ) (here : is_some (get q.runnable w.stays) ≡ true) (all : AllCount w q.runnable)
    (limit : ℤ) (none : NoneStandsPast w limit q) where
  awake_there : (s : Sleeper) (place : ℤ) → IsDozing w q task s → w.counts task ≡ true → place_of (awake_in q task s) task ≡ Some place → place ≤ℤ limit
  awake_there s place d counts at =
      let e : Entry = awake_entry q task s in
      let same : e.v +ℤ q.shift ≡ place =
      one_place (e.v +ℤ q.shift) place (place_of (awake_in q task s) task)
      (standing q.shift (get (remove q.places task) task) (get (awake_in q task s).runnable task) e (here_now q.runnable task e)) at in
      let waking : (e.v +ℤ q.shift) ≤ℤ limit =
      subst (λ (o : Option ℤ). (waking_runtime q s o +ℤ q.shift) ≤ℤ limit) (sym d.kept)
      (of_both d.place q.shift (placement q s) (virtual_time q) limit
      (none task d.place counts (ap (place_by q.shift (get q.places task)) d.not_runnable ∙ d.kept))
      (placed_in_time q s d.no_debt) (time_in w q limit here all none)) in
      subst (λ (z : ℤ). z ≤ℤ limit) same waking

wakes : (w : Watch) (q : State) (task : ℕ) → is_some (get q.runnable w.stays) ≡ true
    → AllCount w q.runnable → DozesIfItCounts w q task → PutsNonePast w q (wake q task).1
wakes w q task here all dozing limit none =
    but_one w task q (wake q task).1 limit (wake_touches q task) none
    (wake_is (λ r. (place : ℤ) → w.counts task ≡ true → place_of r task ≡ Some place → place ≤ℤ limit) q task
    (λ place counts at. none task place counts at)
    (λ s asleep place counts at. awake_there w q task here all limit none s place (dozing s counts asleep) counts at))

pub calls_put_none_past : CallsPutNonePast
calls_put_none_past = record {
  others = others;
  dozes = dozes;
  wakes = wakes;
  yields = λ w q. by_stand w q (yield_now q).1 (pos 0) (yields_stand q);
  slices = λ w q task slice. by_stand w q (set_slice q task slice) (pos 0) (slices_stand q task slice);
  stops = λ w q. by_stand w q (nobody_runs q) (pos 0) (stops_stand q);
  rebases = λ w q. by_stand w q (rebase q).1 (rebase q).0 (rebases_stand q);
}
