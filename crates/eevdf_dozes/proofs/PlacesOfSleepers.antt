-- A place is kept of tasks that sleep here alone, whatever is called.
use Rattle.std.proofs.Common.{◌≡◌, ℕ, Bool, true, false, cond, Option, Some, None, refl, sym, ap, ◌∙◌, subst}
use Rattle.std.specs.Prelude.{ℤ, ◌+ℤ◌, is_some}
use Rattle.std.specs.{Ordering.nat_cmp, Ordering.eq_by_cmp, Option.option_map}
use Rattle.std.specs.FinMap.{FinMap, get, insert, contains_key}
use Rattle.eevdf_queue.specs.{declared.entry.Entry.Entry, declared.sleeper.Sleeper.Sleeper, State.State, State.Contents, Pick.pick_of}
use Rattle.eevdf_queue.specs.declared.answers.ReniceAnswer.{ReniceAnswer}
use Rattle.eevdf_queue.specs.declared.answers.ReniceAnswer.TheVariants as reniced
use Rattle.eevdf_queue.specs.declared.answers.WakeAnswer.TheVariants.{Woken}
use Rattle.eevdf_queue.specs.{Leaving.leaving, Leaving.leave, Leaving.leave_running, Leaving.without_entry, Leaving.without_sleeper, Placing.put, Placing.placement}
use Rattle.eevdf_queue.specs.{Moves.sleeper_of, Moves.with_runnable, Moves.entry_in_range, Moves.fresh_entry, Lag.kept_lag, Doze.dozing, Doze.doze, Wake.wake}
use Rattle.eevdf_queue.specs.{Candidate.is_running, Yield.yield_now, Rebase.rebase, Renice.renice, Renice.renice_to, Renice.renice_entry, Renice.reniced as rejoining}
use Rattle.eevdf_queue.specs.SliceChange.{set_entry_slice, set_sleeper_slice, sleeper_with_slice}
use Rattle.eevdf_queue.specs.Attributes.{set_sleeper, set_reniced, sleeper_with, begin_sleeper}
use Rattle.eevdf_queue.proofs.{Foremost.equal_number, Sound.gone as gone_from}
use Rattle.eevdf_fairness.proofs.RestOfQueue.{pick_rest, tick_rest}
use Rattle.eevdf_dozes.specs.Stretches.{picked, ticked}
use Rattle.eevdf_dozes.specs.PlacesOfSleepers.{PlacesAreOfSleepers, StaysSo, PlacesStayOfSleepers, OnlyDozesLeavePlaces}
use Rattle.eevdf_dozes.specs.Calls.{Touches}
use Rattle.eevdf_dozes.proofs.Dozing.{dozing_of, dozing_in, doze_is, awake_in, wake_answers, wake_is}
use Rattle.eevdf_dozes.proofs.Touching.{untouched, put_is, wake_touches, calls_touch_one}
use Rattle.eevdf_dozes.proofs.Changes.{differs, here_now}
use Rattle.eevdf_dozes.proofs.Sleepers.{yield_sleepers, rebase_sleepers}
use Rattle.eevdf_dozes.proofs.Standing.{yields_stand, rebases_stand}

-- ---- where the same tasks sleep
asleep_too : (q r : State) → r.asleep ≡ q.asleep → (t : ℕ) → is_some (get q.asleep t) ≡ true → is_some (get r.asleep t) ≡ true
asleep_too q r same t h = ap (λ (m : FinMap nat_cmp Sleeper). is_some (get m t)) same ∙ h

-- those that slept sleep on
abbrev SleepOn : State → State → Type 0
SleepOn q r = (t : ℕ) → is_some (get q.asleep t) ≡ true → is_some (get r.asleep t) ≡ true

by_keeping : (q r : State) → r.places ≡ q.places → SleepOn q r → StaysSo q r
by_keeping q r same on so t kept = on t (so t (ap (λ (m : FinMap nat_cmp ℤ). is_some (get m t)) (sym same) ∙ kept))

-- all but a task that has no place any more
by_forgetting : (q r : State) (task : ℕ) → Touches task q r → is_some (get r.places task) ≡ false → StaysSo q r
by_forgetting q r task h none so t kept =
    by (eq_by_cmp nat_cmp t task) refl
  where
    by : (b : Bool) → eq_by_cmp nat_cmp t task ≡ b → is_some (get r.asleep t) ≡ true
    by true is =
        let absent : is_some (get r.places t) ≡ false = ap (λ (u : ℕ). is_some (get r.places u)) (equal_number t task is) ∙ none in
        cc
    by false is =
        let other = differs t task is in
        ap is_some (h.asleep t other) ∙ so t (ap is_some (sym (h.places t other)) ∙ kept)

put_asleep_too : (m : FinMap nat_cmp Sleeper) (task t : ℕ) (s : Sleeper) → is_some (get m t) ≡ true → is_some (get (insert m task s) t) ≡ true
put_asleep_too m task t s h =
    by (eq_by_cmp nat_cmp t task) refl
  where
    by : (b : Bool) → eq_by_cmp nat_cmp t task ≡ b → is_some (get (insert m task s) t) ≡ true
    by true is =
        let same : t ≡ task = equal_number t task is in
        subst (λ (u : ℕ). is_some (get (insert m task s) u) ≡ true) (sym same) (ap is_some (here_now m task s))
    by false is = ap is_some (untouched m task t s (differs t task is)) ∙ h

-- ---- a doze
-- a task gets a place, and sleeps here
placed_so : (q : State) (task : ℕ) (s : Sleeper) (place : ℤ)
    → StaysSo q (record q { asleep = insert q.asleep task s; places = insert q.places task place })
placed_so q task s place so t kept =
    by (eq_by_cmp nat_cmp t task) refl
  where
    by : (b : Bool) → eq_by_cmp nat_cmp t task ≡ b → is_some (get (insert q.asleep task s) t) ≡ true
    by true is =
        let same : t ≡ task = equal_number t task is in
        subst (λ (u : ℕ). is_some (get (insert q.asleep task s) u) ≡ true) (sym same) (ap is_some (here_now q.asleep task s))
    by false is =
        let other = differs t task is in
        ap is_some (untouched q.asleep task t s other) ∙ so t (ap is_some (sym (untouched q.places task t place other)) ∙ kept)

dozing_so : (q : State) (task : ℕ) (e : Entry) → StaysSo q (dozing_in q task e)
dozing_so q task e = placed_so q task (dozing_of q e) (e.v +ℤ q.shift)

doze_so : (q : State) (task : ℕ) → StaysSo q (doze q task)
doze_so q task = doze_is (StaysSo q) q task (λ so. so) (λ e runs here. dozing_so q task e)

-- ---- a wake
wake_so : (q : State) (task : ℕ) → StaysSo q (wake q task).1
wake_so q task =
    wake_is (λ r. Touches task q r → StaysSo q r) q task (λ touches so. so)
    (λ s asleep touches. by_forgetting q (awake_in q task s) task touches (ap is_some (gone_from q.places task))) (wake_touches q task)

-- ---- a sleep, a leaving and a joining
left_places : (q : State) (task : ℕ) (o : Option Entry) → (without_entry q task o).places ≡ q.places
left_places q task None = refl
left_places q task (Some e) = refl

left_asleep : (q : State) (task : ℕ) (o : Option Entry) → (without_entry q task o).asleep ≡ q.asleep
left_asleep q task None = refl
left_asleep q task (Some e) = refl

left_so : (q : State) (task : ℕ) → StaysSo q (leave q task)
left_so q task = by_keeping q (leave q task) (left_places q task (get q.runnable task)) (asleep_too q (leave q task) (left_asleep q task (get q.runnable task)))

left_running_so : (q : State) (task : ℕ) (b : Bool) → StaysSo q (cond b (leave q task) q)
left_running_so q task true = left_so q task
left_running_so q task false = λ so. so

taken_so : (q : State) (task : ℕ) (o : Option Sleeper) → Touches task q (without_sleeper q task o) → StaysSo q (without_sleeper q task o)
taken_so q task None h = λ so. so
taken_so q task (Some s) h = by_forgetting q (without_sleeper q task (Some s)) task h (ap is_some (gone_from q.places task))

begun_so : (q : State) (task : ℕ) (nice : ℤ) (slice : ℕ) (o : Option Sleeper) → Touches task q (begin_sleeper q task nice slice o) → StaysSo q (begin_sleeper q task nice slice o)
begun_so q task nice slice None h = λ so. so
begun_so q task nice slice (Some s) h = by_forgetting q (begin_sleeper q task nice slice (Some s)) task h (ap is_some (gone_from q.places task))

joined_so : (q r : State) (task : ℕ) (s : Sleeper) (v : ℤ) → with_runnable q task (entry_in_range (fresh_entry v s.nice s.slice)) ≡ Some r → StaysSo q r
joined_so q r task s v is = subst (StaysSo q) (sym (put_is q r task s v is)) (λ so. so)

-- ---- another level, another slice
-- the same tasks sleep, at the same places
abbrev SleepAlike : State → State → Type 0
SleepAlike q r = (r.asleep ≡ q.asleep) × (r.places ≡ q.places)

alike_so : (q r : State) → SleepAlike q r → StaysSo q r
alike_so q r same = by_keeping q r same.1 (asleep_too q r same.0)

put_alike : (q r : State) (task : ℕ) (s : Sleeper) → put (leave q task) task s ≡ Some r → SleepAlike q r
put_alike q r task s is =
    let whole = put_is (leave q task) r task s (placement (leave q task) s) is in (
      ap (λ (x : State). x.asleep) whole ∙ left_asleep q task (get q.runnable task),
      ap (λ (x : State). x.places) whole ∙ left_places q task (get q.runnable task),
    )

rejoined : (q : State) (o : Option State) → ((r : State) → o ≡ Some r → SleepAlike q r) → SleepAlike q (renice_to q o).1
rejoined q None h = (refl, refl)
rejoined q (Some r) h = h r refl

reniced_alike : (q : State) (task : ℕ) (nice : ℤ) (o : Option Entry) → SleepAlike q (renice_entry q task nice o).1
reniced_alike q task nice None = (refl, refl)
reniced_alike q task nice (Some e) = rejoined q (put (leave q task) task (rejoining q e nice)) (λ r is. put_alike q r task (rejoining q e nice) is)

slept_so : (q : State) (task : ℕ) (s : Sleeper) → StaysSo q (record q { asleep = insert q.asleep task s })
slept_so q task s = by_keeping q (record q { asleep = insert q.asleep task s }) refl (λ t h. put_asleep_too q.asleep task t s h)

sliced_asleep_so : (q : State) (task slice : ℕ) (o : Option Sleeper) → StaysSo q (set_sleeper_slice q task slice o)
sliced_asleep_so q task slice None = λ so. so
sliced_asleep_so q task slice (Some s) = slept_so q task (sleeper_with_slice s slice)

sliced_so : (q : State) (task slice : ℕ) (o : Option Entry) → StaysSo q (set_entry_slice q task slice o)
sliced_so q task slice None = sliced_asleep_so q task slice (get q.asleep task)
sliced_so q task slice (Some e) = λ so. so

set_asleep_so : (q : State) (task : ℕ) (nice : ℤ) (slice : ℕ) (o : Option Sleeper) → StaysSo q (set_sleeper q task nice slice o).1
set_asleep_so q task nice slice None = λ so. so
set_asleep_so q task nice slice (Some s) = slept_so q task (sleeper_with s nice slice)

set_so : (q : State) (task : ℕ) (nice : ℤ) (slice : ℕ) (a : ReniceAnswer) (r : State) → SleepAlike q r → StaysSo q (set_reniced q task nice slice a r).1
set_so q task nice slice reniced.Reniced r same so = sliced_so r task slice (get r.runnable task) (alike_so q r same so)
set_so q task nice slice reniced.NotHere r same so = set_asleep_so q task nice slice (get q.asleep task) so
set_so q task nice slice reniced.Range r same so = so

adopted_so : (q : State) (task : ℕ) (b : Bool) → StaysSo q (cond b (record q { running = Some task }) q)
adopted_so q task true so = so
adopted_so q task false so = so

pub places_stay_of_sleepers : PlacesStayOfSleepers
places_stay_of_sleepers = record {
  picks = λ q. let rest = pick_rest q (pick_of q.runnable) in alike_so q (picked q) (rest.asleep, rest.places);
  ticks = λ q ns. let rest = tick_rest q ns q.running in alike_so q (ticked q ns) (rest.asleep, rest.places);
  dozes = doze_so;
  wakes = wake_so;
  leaves = left_so;
  leaves_running = λ q task. left_running_so q task (is_running q.running task);
  leaves_asleep = λ q task. taken_so q task (get q.asleep task) (calls_touch_one.leaves_asleep q task);
  falls_asleep = λ q p. slept_so q p.task (sleeper_of p);
  dozes_off = λ q p. placed_so q p.task (dozing p) (p.start +ℤ q.shift);
  is_admitted = λ q p r is. joined_so q r p.task (sleeper_of p) p.start is;
  joins = λ q task s r is. joined_so q r task s (placement q s) is;
  begins = λ q task nice slice. begun_so q task nice slice (get q.asleep task) (calls_touch_one.begins q task nice slice);
  renices = λ q task nice. alike_so q (renice q task nice).1 (reniced_alike q task nice (get q.runnable task));
  is_set = λ q task nice slice. set_so q task nice slice (renice q task nice).0 (renice q task nice).1 (reniced_alike q task nice (get q.runnable task));
  slices = λ q task slice. sliced_so q task slice (get q.runnable task);
  is_adopted = λ q task. adopted_so q task (contains_key q.runnable task);
  yields = λ q. alike_so q (yield_now q).1 (yield_sleepers q, (yields_stand q).places);
  stops = λ q so. so;
  rebases = λ q. alike_so q (rebase q).1 (rebase_sleepers q, (rebases_stand q).places);
}

-- ---- who has none
-- a task that doesn't sleep here
no_place : (q : State) (t : ℕ) → PlacesAreOfSleepers q → get q.asleep t ≡ None → get q.places t ≡ None
no_place q t so none = by (get q.places t) refl
  where
    by : (o : Option ℤ) → get q.places t ≡ o → o ≡ None
    by None is = refl
    by (Some place) is =
        let sleeps : is_some (get q.asleep t) ≡ true = so t (ap is_some is) in
        let awake : is_some (get q.asleep t) ≡ false = ap is_some none in
        cc

still_none : (q r : State) (t : ℕ) → r.places ≡ q.places → get q.places t ≡ None → get r.places t ≡ None
still_none q r t same none = ap (λ (m : FinMap nat_cmp ℤ). get m t) same ∙ none

taken_none : (q : State) (task : ℕ) (o : Option Sleeper) → get q.asleep task ≡ o → PlacesAreOfSleepers q → get (without_sleeper q task o).places task ≡ None
taken_none q task None is so = no_place q task so is
taken_none q task (Some s) is so = gone_from q.places task

begun_none : (q : State) (task : ℕ) (nice : ℤ) (slice : ℕ) (o : Option Sleeper) → get q.asleep task ≡ o → PlacesAreOfSleepers q
    → get (begin_sleeper q task nice slice o).places task ≡ None
begun_none q task nice slice None is so = no_place q task so is
begun_none q task nice slice (Some s) is so = gone_from q.places task

runs_here : (q : State) (task : ℕ) (b : Bool) (o : Option Entry) (p : Contents)
    → cond b (option_map (λ (e : Entry). leaving task (kept_lag q e) e) o) None ≡ Some p → is_some o ≡ true
runs_here q task true None p is = cc
runs_here q task true (Some e) p is = refl
runs_here q task false o p is = cc

left_running_places : (q : State) (task : ℕ) (b : Bool) → (cond b (leave q task) q).places ≡ q.places
left_running_places q task true = left_places q task (get q.runnable task)
left_running_places q task false = refl

joined_places : (q r : State) (task : ℕ) (s : Sleeper) (v : ℤ) → with_runnable q task (entry_in_range (fresh_entry v s.nice s.slice)) ≡ Some r → r.places ≡ q.places
joined_places q r task s v is = ap (λ (x : State). x.places) (put_is q r task s v is)

pub only_dozes_leave_places : OnlyDozesLeavePlaces
only_dozes_leave_places = record {
  leaves = λ q task e sound so here.
      still_none q (leave q task) task (left_places q task (get q.runnable task)) (no_place q task so (sound.apart task (ap is_some here)));
  leaves_asleep = λ q task so. taken_none q task (get q.asleep task) refl so;
  sleeps = λ q task p sound so is.
      still_none q (leave_running q task) task (left_running_places q task (is_running q.running task))
      (no_place q task so (sound.apart task (runs_here q task (is_running q.running task) (get q.runnable task) p is)));
  falls_asleep = λ q p so none. no_place q p.task so none;
  is_admitted = λ q p r so none is. still_none q r p.task (joined_places q r p.task (sleeper_of p) p.start is) (no_place q p.task so none);
  joins = λ q task s r so none is. still_none q r task (joined_places q r task s (placement q s) is) (no_place q task so none);
  begins = λ q task nice slice so. begun_none q task nice slice (get q.asleep task) refl so;
  wakes = λ q task so.
      wake_answers (λ z. z.0 ≡ Woken → get (z.1).places task ≡ None) q task (λ a other is. absurd (other is)) (λ s asleep is. gone_from q.places task);
}
