-- The tasks that count and sleep doze, whatever is called.
use Rattle.std.proofs.Common.{◌≡◌, ℕ, Bool, true, false, cond, Option, Some, None, refl, sym, ap, ◌∙◌, subst, arith}
use Rattle.std.specs.Prelude.{ℤ, pos, ◌+ℤ◌, ◌≤ℤ◌, ◌==◌}
use Rattle.std.specs.{Ordering.nat_cmp, Ordering.eq_by_cmp, Int.int_max}
use Rattle.std.specs.FinMap.{FinMap, get, insert, remove}
use Rattle.std.proofs.{lemmas.Int.ints, lemmas.Int.clamps}
use Rattle.eevdf_queue.specs.{declared.entry.Entry.Entry, declared.sleeper.Sleeper.Sleeper, State.State, Sums.Tasks, Laws.PickIsFirst, Lag.kept_lag, Lag.cut}
use Rattle.eevdf_queue.specs.declared.answers.YieldAnswer.{YieldAnswer}
use Rattle.eevdf_queue.specs.declared.answers.YieldAnswer.TheVariants as yields
use Rattle.eevdf_queue.specs.{Pick.IsPick, Pick.pick_of, Pick.picked_by, Tick.tick, Tick.charged, Leaving.stopped, Candidate.is_running}
use Rattle.eevdf_queue.specs.{Sums.virtual_time, Rebase.can_rebase, Rebase.rebased, Rebase.rebase}
use Rattle.eevdf_queue.specs.Yield.{yielded, yield_entry, yield_running, yield_now}
use Rattle.eevdf_queue.specs.SliceChange.{sleeper_with_slice, set_slice, set_entry_slice, set_sleeper_slice}
use Rattle.eevdf_queue.proofs.{Foremost.equal_number, Sound.gone as gone_from}
use Rattle.eevdf_weight.specs.{Limits.is_in_range, Weight.weight_of, Charge.lag_limit_of}
use Rattle.eevdf_fairness.proofs.RestOfQueue.{pick_rest, tick_rest}
use Rattle.eevdf_dozes.specs.Stretches.{Watch, HaveLevels, picked, ticked}
use Rattle.eevdf_queue.specs.{Doze.doze, Wake.wake}
use Rattle.eevdf_dozes.specs.{Calls.Touches, Calls.IsDozing, Calls.DozesIfItCounts, Histories.SleepersDoze}
use Rattle.eevdf_dozes.proofs.Ticking.{tick_cases, tick_running_stays, other_entry}
use Rattle.eevdf_dozes.proofs.{PicksInTime.same_tasks, Standing.AllStand, Standing.StandsStill}
use Rattle.eevdf_dozes.proofs.Dozing.{dozing_of, dozing_in, doze_is, awake_in, wake_is}
use Rattle.eevdf_dozes.proofs.Touching.{untouched, doze_touches, wake_touches}
use Rattle.eevdf_dozes.proofs.Changes.{differs, here_now, none_there, uncounted, nobody_is, stopped_is}
use Rattle.eevdf_ops.proofs.MapCounts.{equal}

-- ---- one that isn't touched dozes on
pub dozes_on : (w : Watch) (q r : State) (t : ℕ) (s : Sleeper) → IsDozing w q t s → get r.runnable t ≡ None
    → (r.running ≡ Some t → ⊥) → get r.places t ≡ get q.places t → IsDozing w r t s
dozes_on w q r t s d rests stands places = record {
  level = d.level;
  place = d.place;
  kept = places ∙ d.kept;
  no_debt = d.no_debt;
  not_runnable = rests;
  not_running = stands;
}

-- so do all, if the touched one does
pub but_one : (w : Watch) (task : ℕ) (q r : State) → Touches task q r → SleepersDoze w q → DozesIfItCounts w r task → SleepersDoze w r
but_one w task q r h sleepers one t s counts asleep =
    by (eq_by_cmp nat_cmp t task) refl
  where
    by : (b : Bool) → eq_by_cmp nat_cmp t task ≡ b → IsDozing w r t s
    by true is =
        let same : t ≡ task = equal_number t task is in
        subst (λ (u : ℕ). w.counts u ≡ true → get r.asleep u ≡ Some s → IsDozing w r u s) (sym same) (one s) counts asleep
    by false is =
        let other = differs t task is in
        let d : IsDozing w q t s = sleepers t s counts (sym (h.asleep t other) ∙ asleep) in
        dozes_on w q r t s d (h.runnable t other ∙ d.not_runnable) (λ runs. d.not_running (h.runs t other runs)) (h.places t other)

pub others_doze : (w : Watch) (task : ℕ) (q r : State) → w.counts task ≡ false → Touches task q r → SleepersDoze w q → SleepersDoze w r
others_doze w task q r not h sleepers = but_one w task q r h sleepers (λ s counts. absurd (uncounted (w.counts task) not counts))

-- ---- a pick
not_picked : PickIsFirst → (q : State) (t : ℕ) (o : Option ℕ) → pick_of q.runnable ≡ o → get q.runnable t ≡ None → (q.running ≡ Some t → ⊥)
    → (picked_by q o).running ≡ Some t → ⊥
not_picked first q t None is none stands runs = stands runs
not_picked first q t (Some p) is none stands runs =
    let pick : IsPick q.runnable t = first q.runnable t (is ∙ runs) in
    let here : get q.runnable t ≡ Some pick.entry = pick.eligible.here in
    cc

pub same_sleepers : (q : State) (o : Option ℕ) → (picked_by q o).asleep ≡ q.asleep
same_sleepers q None = refl
same_sleepers q (Some p) = refl

pub pick_dozes : PickIsFirst → (w : Watch) (q : State) → SleepersDoze w q → SleepersDoze w (picked q)
pick_dozes first w q sleepers t s counts asleep =
    let d : IsDozing w q t s =
    sleepers t s counts (ap (λ (m : FinMap nat_cmp Sleeper). get m t) (sym (same_sleepers q (pick_of q.runnable))) ∙ asleep) in
    dozes_on w q (picked q) t s d
    (ap (λ (m : Tasks). get m t) (same_tasks q (pick_of q.runnable)) ∙ d.not_runnable)
    (not_picked first q t (pick_of q.runnable) refl d.not_runnable d.not_running)
    (ap (λ (m : FinMap nat_cmp ℤ). get m t) (pick_rest q (pick_of q.runnable)).places)

-- ---- a tick
absent_by : (tasks : Tasks) (p t : ℕ) (e : Entry) (ns : ℕ) (b : Bool) → (p == t) ≡ b → get tasks p ≡ Some e → get tasks t ≡ None
    → get (insert tasks p (charged e ns)) t ≡ None
absent_by tasks p t e ns true is at none =
    let same : get tasks t ≡ Some e = ap (get tasks) (sym (equal p t is)) ∙ at in
    cc
absent_by tasks p t e ns false is at none = other_entry tasks p t (charged e ns) is ∙ none

pub absent : (q : State) (t ns : ℕ) → get q.runnable t ≡ None → get (tick q ns).1.runnable t ≡ None
absent q t ns none =
    tick_cases (λ z. get (z.1).runnable t ≡ None) q ns none none
    (λ p e resched runs at. absent_by q.runnable p t e ns (p == t) refl at none)

pub sleepers_ticked : (q : State) (ns : ℕ) → (tick q ns).1.asleep ≡ q.asleep
sleepers_ticked q ns = tick_cases (λ z. (z.1).asleep ≡ q.asleep) q ns refl refl (λ p e resched runs at. refl)

pub tick_dozes : (w : Watch) (ns : ℕ) (q : State) → SleepersDoze w q → SleepersDoze w (ticked q ns)
tick_dozes w ns q sleepers t s counts asleep =
    let d : IsDozing w q t s = sleepers t s counts (ap (λ (m : FinMap nat_cmp Sleeper). get m t) (sym (sleepers_ticked q ns)) ∙ asleep) in
    dozes_on w q (ticked q ns) t s d (absent q t ns d.not_runnable)
    (λ runs. d.not_running (sym (tick_running_stays q ns) ∙ runs))
    (ap (λ (m : FinMap nat_cmp ℤ). get m t) (tick_rest q ns q.running).places)

-- ---- all that stand
still_absent : (by : ℤ) (o now : Option Entry) → StandsStill by o now → o ≡ None → now ≡ None
still_absent by None now h none = h
still_absent by (Some e) now h none = cc

pub stand_dozes : (w : Watch) (q r : State) (by : ℤ) → AllStand q r by → r.asleep ≡ q.asleep → SleepersDoze w q → SleepersDoze w r
stand_dozes w q r by h same_map sleepers t s counts asleep =
    let d : IsDozing w q t s = sleepers t s counts (ap (λ (m : FinMap nat_cmp Sleeper). get m t) (sym same_map) ∙ asleep) in
    dozes_on w q r t s d (still_absent by (get q.runnable t) (get r.runnable t) (h.tasks t) d.not_runnable)
    (λ runs. d.not_running (h.runs t runs)) (ap (λ (m : FinMap nat_cmp ℤ). get m t) h.places)

-- a yield
yielded_sleepers : (q : State) (task : ℕ) (e : Entry) (b : Bool)
    → (cond {A = YieldAnswer × State} b (yields.Yielded, record q { runnable = insert q.runnable task (yielded e) }) (yields.Range, q)).1.asleep ≡ q.asleep
yielded_sleepers q task e true = refl
yielded_sleepers q task e false = refl

yield_entry_sleepers : (q : State) (task : ℕ) (o : Option Entry) → (yield_entry q task o).1.asleep ≡ q.asleep
yield_entry_sleepers q task None = refl
yield_entry_sleepers q task (Some e) = yielded_sleepers q task e (is_in_range (yielded e).d)

yield_by : (q : State) (o : Option ℕ) → (yield_running q o).1.asleep ≡ q.asleep
yield_by q None = refl
yield_by q (Some task) = yield_entry_sleepers q task (get q.runnable task)

pub yield_sleepers : (q : State) → (yield_now q).1.asleep ≡ q.asleep
yield_sleepers q = yield_by q q.running

-- a rebase
rebased_by : (q : State) (b : Bool) → (cond {A = ℤ × State} b (virtual_time q, rebased q) (pos 0, q)).1.asleep ≡ q.asleep
rebased_by q true = refl
rebased_by q false = refl

pub rebase_sleepers : (q : State) → (rebase q).1.asleep ≡ q.asleep
rebase_sleepers q = rebased_by q (can_rebase q)

-- ---- another slice
no_debt_cut : (lag : ℤ) (limit : ℕ) → pos 0 ≤ℤ lag → pos 0 ≤ℤ cut lag limit
no_debt_cut lag limit h = omega (arith, ints, clamps, h)

sliced_doze : (w : Watch) (q : State) (t slice : ℕ) (s : Sleeper) → IsDozing w q t s → IsDozing w q t (sleeper_with_slice s slice)
sliced_doze w q t slice s d = record {
  level = d.level;
  place = d.place;
  kept = d.kept;
  no_debt = no_debt_cut s.lag (lag_limit_of slice (weight_of s.nice)) d.no_debt;
  not_runnable = d.not_runnable;
  not_running = d.not_running;
}

-- a sleeper of which something else is kept: the others doze on, and so does it
slept_doze : (w : Watch) (q : State) (task : ℕ) (x : Sleeper) → SleepersDoze w q → (w.counts task ≡ true → IsDozing w q task x)
    → SleepersDoze w (record q { asleep = insert q.asleep task x })
slept_doze w q task x sleepers one t s counts asleep =
    by (eq_by_cmp nat_cmp t task) refl
  where
    by : (b : Bool) → eq_by_cmp nat_cmp t task ≡ b → IsDozing w (record q { asleep = insert q.asleep task x }) t s
    by true is =
        let same : t ≡ task = equal_number t task is in
        let now : get (insert q.asleep task x) t ≡ Some x =
        subst (λ (u : ℕ). get (insert q.asleep task x) u ≡ Some x) (sym same) (here_now q.asleep task x) in
        let itself : x ≡ s = cc in
        let d : IsDozing w q t s =
        subst (λ (u : ℕ). w.counts u ≡ true → IsDozing w q u s) (sym same) (subst (λ (y : Sleeper). w.counts task ≡ true → IsDozing w q task y) itself one) counts in
        dozes_on w q (record q { asleep = insert q.asleep task x }) t s d d.not_runnable d.not_running refl
    by false is =
        let d : IsDozing w q t s = sleepers t s counts (sym (untouched q.asleep task t x (differs t task is)) ∙ asleep) in
        dozes_on w q (record q { asleep = insert q.asleep task x }) t s d d.not_runnable d.not_running refl

-- a runnable task gets another entry: those that sleep aren't runnable
entry_dozes : (w : Watch) (q : State) (task : ℕ) (e f : Entry) → get q.runnable task ≡ Some e → SleepersDoze w q
    → SleepersDoze w (record q { runnable = insert q.runnable task f })
entry_dozes w q task e f here sleepers t s counts asleep =
    let d : IsDozing w q t s = sleepers t s counts asleep in
    dozes_on w q (record q { runnable = insert q.runnable task f }) t s d
    (untouched q.runnable task t f (λ same. absent_other t d.not_runnable same) ∙ d.not_runnable) d.not_running refl
  where
    absent_other : (u : ℕ) → get q.runnable u ≡ None → u ≡ task → ⊥
    absent_other u none same = none_there (get q.runnable task) e (ap (get q.runnable) (sym same) ∙ none) here

sleeper_slice_by : (w : Watch) (q : State) (task slice : ℕ) (o : Option Sleeper) → get q.asleep task ≡ o → SleepersDoze w q
    → SleepersDoze w (set_sleeper_slice q task slice o)
sleeper_slice_by w q task slice None is sleepers = sleepers
sleeper_slice_by w q task slice (Some s) is sleepers =
    slept_doze w q task (sleeper_with_slice s slice) sleepers (λ counts. sliced_doze w q task slice s (sleepers task s counts is))

slice_by : (w : Watch) (q : State) (task slice : ℕ) (o : Option Entry) → get q.runnable task ≡ o → SleepersDoze w q
    → SleepersDoze w (set_entry_slice q task slice o)
slice_by w q task slice None is sleepers = sleeper_slice_by w q task slice (get q.asleep task) refl sleepers
slice_by w q task slice (Some e) is sleepers = entry_dozes w q task e (record e { slice = slice }) is sleepers

pub slice_dozes : (w : Watch) (q : State) (task slice : ℕ) → SleepersDoze w q → SleepersDoze w (set_slice q task slice)
slice_dozes w q task slice = slice_by w q task slice (get q.runnable task) refl

-- ---- a doze
no_debt_kept : (lag : ℤ) → pos 0 ≤ℤ int_max (pos 0) lag
no_debt_kept lag = omega (arith, ints, clamps)

dozing_dozes : (w : Watch) (q : State) (task : ℕ) (e : Entry) → is_running q.running task ≡ true → get q.runnable task ≡ Some e → HaveLevels w q.runnable
    → DozesIfItCounts w (dozing_in q task e) task
dozing_dozes w q task e runs here levels s counts asleep =
    let x : Sleeper = dozing_of q e in
    let now : get (insert q.asleep task x) task ≡ Some x = here_now q.asleep task x in
    let same : x ≡ s = cc in
    subst (IsDozing w (dozing_in q task e) task) same
    (record {
      level = levels task e counts here;
      place = e.v +ℤ q.shift;
      kept = here_now q.places task (e.v +ℤ q.shift);
      no_debt = no_debt_kept (kept_lag q e);
      not_runnable = gone_from q.runnable task;
      not_running = λ is. nobody_is (stopped q.running task) task (stopped_is q.running task runs) is;
    })

pub doze_dozes : (w : Watch) (q : State) (task : ℕ) → HaveLevels w q.runnable → SleepersDoze w q → SleepersDoze w (doze q task)
doze_dozes w q task levels sleepers =
    but_one w task q (doze q task) (doze_touches q task) sleepers
    (doze_is (λ r. DozesIfItCounts w r task) q task (sleepers task) (λ e runs here. dozing_dozes w q task e runs here levels))

-- ---- a wake
awake_dozes : (w : Watch) (q : State) (task : ℕ) (x : Sleeper) → DozesIfItCounts w (awake_in q task x) task
awake_dozes w q task x s counts asleep =
    let none : get (remove q.asleep task) task ≡ None = gone_from q.asleep task in
    cc

pub wake_dozes : (w : Watch) (q : State) (task : ℕ) → SleepersDoze w q → SleepersDoze w (wake q task).1
wake_dozes w q task sleepers =
    but_one w task q (wake q task).1 (wake_touches q task) sleepers
    (wake_is (λ r. DozesIfItCounts w r task) q task (sleepers task) (λ s asleep. awake_dozes w q task s))
