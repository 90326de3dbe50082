-- Calls keep within bounds of requests, slices and credits.
use Rattle.std.proofs.Common.{◌≡◌, ℕ, ◌*◌, ◌≤◌, Bool, true, false, cond, List, [], ◌∷◌, Option, Some, None, refl, sym, ap, ◌∙◌, subst, arith}
use Rattle.std.specs.Prelude.{ℤ, pos, ◌+ℤ◌, ◌-ℤ◌, ◌≤ℤ◌}
use Rattle.std.specs.{Option.option_map, Ordering.nat_cmp, Ordering.eq_by_cmp, Int.int_max, List.AllByRecursion}
use Rattle.std.specs.FinMap.{FinMap, get, insert, remove}
use Rattle.std.proofs.{lemmas.Int.ints, lemmas.Int.clamps}
use Rattle.eevdf_weight.specs.{Weight.weight_of, Charge.charge_of, Charge.lag_limit_of}
use Rattle.eevdf_weight.proofs.Weighing.{weight_of-least}
use Rattle.eevdf_queue.specs.{declared.entry.Entry.Entry, declared.sleeper.Sleeper.Sleeper, State.State, Sums.Tasks, Sums.virtual_time, Moves.request_of, Moves.fresh_entry}
use Rattle.eevdf_queue.specs.{Lag.kept_lag, Lag.cut, Pick.pick_of, Tick.aged, Tick.is_used_up, Tick.charged, Tick.tick, Leaving.nobody_runs, Doze.doze, Wake.wake}
use Rattle.eevdf_queue.specs.Rebase.{lowered_entry, can_rebase, rebased, rebase}
use Rattle.eevdf_queue.specs.SliceChange.{sleeper_with_slice, set_slice, set_entry_slice, set_sleeper_slice}
use Rattle.eevdf_queue.proofs.{Foremost.equal_number, Sound.gone as gone_from, LoweredMaps.get-lowered}
use Rattle.eevdf_fairness.proofs.Growing.{found_at_after, rounded_down}
use Rattle.eevdf_dozes.specs.{Stretches.Watch, Stretches.picked, Stretches.ticked, Calls.Touches}
use Rattle.eevdf_dozes.specs.Histories.{Call, Pick, Tick, Doze, Wake, Yield, SetSlice, Stop, Rebase, Touch, after_call, run_after, IsAllowed, AreAllowed}
use Rattle.eevdf_dozes.specs.Bounds.{Bounds, IsWithin, IsWithinAlong, SliceIsWithin, EntryIsWithin, SleeperIsWithin, AllAreWithin, LeavesWithin, BoundsAreKept, FreshStartIsWithin}
use Rattle.eevdf_dozes.proofs.{Ticking.tick_cases, PicksInTime.same_tasks, Sleepers.same_sleepers, Sleepers.sleepers_ticked}
use Rattle.eevdf_dozes.proofs.Dozing.{dozing_of, doze_is, awake_entry, wake_is}
use Rattle.eevdf_dozes.proofs.Touching.{doze_touches, wake_touches, slice_touches}
use Rattle.eevdf_dozes.proofs.Changes.{differs, here_now, none_there, uncounted}
use Rattle.eevdf_fairness.proofs.Inequalities.{no_more as then}
use Rattle.eevdf_fairness.proofs.Turning.{little_charge}

-- ---- a longer slice is charged more
longer : (a c : ℕ) (nice : ℤ) → a ≤ c → charge_of a (weight_of nice) ≤ charge_of c (weight_of nice)
longer a c nice h = little_charge (charge_of a (weight_of nice)) (weight_of nice) a c (weight_of-least nice) (rounded_down a (weight_of nice)) h

twice : (a c : ℕ) → a ≤ c → 2 * a ≤ 2 * c
twice a c h = omega (arith, h)

due_by : (v : ℤ) (a b : ℕ) → a ≤ b → (v +ℤ pos a) ≤ℤ (v +ℤ pos b)
due_by v a b h = omega (arith, ints, h)

module _ (b : Bounds) (t : ℕ) where
  -- a fresh request
  fresh_within : (v nice : ℤ) (slice : ℕ) → SliceIsWithin b t nice slice → EntryIsWithin b t (fresh_entry v nice slice)
  fresh_within v nice slice h = (
    record { no_longer = h.no_longer; request = h.request },
    due_by v (request_of nice slice) b.request
        (then (request_of nice slice) (request_of nice (b.slice_of t)) b.request (longer slice (b.slice_of t) nice h.no_longer) h.request),
  )

  aged_due : (v d : ℤ) (x request : ℕ) → d ≤ℤ (v +ℤ pos request) → d ≤ℤ ((v +ℤ pos x) +ℤ pos request)
  aged_due v d x request h = omega (arith, ints, h)

  charged_within : (e : Entry) (ns : ℕ) → EntryIsWithin b t e → EntryIsWithin b t (charged e ns)
  charged_within e ns h =
      by (is_used_up e ns)
    where
      by : (c : Bool) → EntryIsWithin b t (cond c (fresh_entry (aged e ns) e.nice e.slice) (record e { v = aged e ns }))
      by true = fresh_within (aged e ns) e.nice e.slice h.0
      by false = (record { no_longer = h.0.no_longer; request = h.0.request }, aged_due e.v e.d (charge_of ns (weight_of e.nice)) b.request h.1)

  -- a lag that is cut
  no_more : (lag : ℤ) (limit most : ℕ) → limit ≤ most → cut lag limit ≤ℤ pos most
  no_more lag limit most h = omega (arith, ints, clamps, h)

  or_none : (lag : ℤ) (most : ℕ) → lag ≤ℤ pos most → int_max (pos 0) lag ≤ℤ pos most
  or_none lag most h = omega (arith, ints, clamps, h)

  cut_within : (lag nice : ℤ) (slice : ℕ) → slice ≤ b.slice_of t
      → cut lag (lag_limit_of slice (weight_of nice)) ≤ℤ pos (lag_limit_of (b.slice_of t) (weight_of nice))
  cut_within lag nice slice h =
      no_more lag (lag_limit_of slice (weight_of nice)) (lag_limit_of (b.slice_of t) (weight_of nice))
      (longer (2 * slice) (2 * b.slice_of t) nice (twice slice (b.slice_of t) h))

  dozing_within : (q : State) (e : Entry) → EntryIsWithin b t e → SleeperIsWithin b t (dozing_of q e)
  dozing_within q e h = (
    record { no_longer = h.0.no_longer; request = h.0.request },
    or_none (kept_lag q e) (lag_limit_of (b.slice_of t) (weight_of e.nice)) (cut_within (virtual_time q -ℤ e.v) e.nice e.slice h.0.no_longer),
  )

-- ---- where one is touched alone
module _ (w : Watch) (b : Bounds) where
  -- what holds of the touched one
  record IsWithinThere (task : ℕ) (r : State) : Type 0 where
    runnable : (e : Entry) → get r.runnable task ≡ Some e → (w.counts task ≡ true) × EntryIsWithin b task e
    asleep : (s : Sleeper) → w.counts task ≡ true → get r.asleep task ≡ Some s → SleeperIsWithin b task s

  there_before : (task : ℕ) (q : State) → AllAreWithin w b q → IsWithinThere task q
  there_before task q h = record {
    runnable = λ e here. (h.count task e here, h.runnable task e here);
    asleep = λ s counts here. h.asleep task s counts here;
  }

  module _ (task : ℕ) (q r : State) (touch : Touches task q r) (h : AllAreWithin w b q) (one : IsWithinThere task r) where
    entry_by : (t : ℕ) (e : Entry) (c : Bool) → eq_by_cmp nat_cmp t task ≡ c → get r.runnable t ≡ Some e → (w.counts t ≡ true) × EntryIsWithin b t e
    entry_by t e true is here =
        let same : t ≡ task = equal_number t task is in
        subst (λ (u : ℕ). get r.runnable u ≡ Some e → (w.counts u ≡ true) × EntryIsWithin b u e) (sym same) (one.runnable e) here
    entry_by t e false is here =
        let before : get q.runnable t ≡ Some e = sym (touch.runnable t (differs t task is)) ∙ here in
        (h.count t e before, h.runnable t e before)

    sleeper_by : (t : ℕ) (s : Sleeper) (c : Bool) → eq_by_cmp nat_cmp t task ≡ c → w.counts t ≡ true → get r.asleep t ≡ Some s → SleeperIsWithin b t s
    sleeper_by t s true is counts here =
        let same : t ≡ task = equal_number t task is in
        subst (λ (u : ℕ). w.counts u ≡ true → get r.asleep u ≡ Some s → SleeperIsWithin b u s) (sym same) (one.asleep s) counts here
    sleeper_by t s false is counts here = h.asleep t s counts (sym (touch.asleep t (differs t task is)) ∙ here)

    but_one : AllAreWithin w b r
    but_one = record {
      count = λ t e here. (entry_by t e (eq_by_cmp nat_cmp t task) refl here).0;
      runnable = λ t e here. (entry_by t e (eq_by_cmp nat_cmp t task) refl here).1;
      asleep = λ t s. sleeper_by t s (eq_by_cmp nat_cmp t task) refl;
    }

  touch_within : (q r : State) (task : ℕ) → w.counts task ≡ false → get r.runnable task ≡ None → Touches task q r → AllAreWithin w b q → AllAreWithin w b r
  touch_within q r task not rests touch h =
      but_one task q r touch h
      (record {
        runnable = λ e here. absurd (none_there (get r.runnable task) e rests here);
        asleep = λ s counts here. absurd (uncounted (w.counts task) not counts);
      })

  doze_within : (q : State) (task : ℕ) → AllAreWithin w b q → AllAreWithin w b (doze q task)
  doze_within q task h =
      but_one task q (doze q task) (doze_touches q task) h
      (doze_is (IsWithinThere task) q task (there_before task q h)
      (λ e runs here.
      record {
        runnable = λ f there. absurd (none_there (get (remove q.runnable task) task) f (gone_from q.runnable task) there);
        asleep = λ s counts there.
            let now : get (insert q.asleep task (dozing_of q e)) task ≡ Some (dozing_of q e) = here_now q.asleep task (dozing_of q e) in
            let same : dozing_of q e ≡ s = cc in
            subst (SleeperIsWithin b task) same (dozing_within b task q e (h.runnable task e here));
      }))

  wake_within : (q : State) (task : ℕ) → w.counts task ≡ true → AllAreWithin w b q → AllAreWithin w b (wake q task).1
  wake_within q task counts h =
      but_one task q (wake q task).1 (wake_touches q task) h
      (wake_is (IsWithinThere task) q task (there_before task q h)
      (λ s asleep.
      record {
        runnable = λ e there.
            let x : Entry = awake_entry q task s in
            let now : get (insert q.runnable task x) task ≡ Some x = here_now q.runnable task x in
            let same : x ≡ e = cc in
            (counts, subst (EntryIsWithin b task) same (fresh_within b task x.v s.nice s.slice (h.asleep task s counts asleep).0));
        asleep = λ y does there.
            let none : get (remove q.asleep task) task ≡ None = gone_from q.asleep task in
            cc;
      }))

  slice_within : (q : State) (task slice : ℕ) → slice ≤ b.slice_of task → AllAreWithin w b q → AllAreWithin w b (set_slice q task slice)
  slice_within q task slice short h =
      but_one task q (set_slice q task slice) (slice_touches q task slice) h (by (get q.runnable task) refl)
    where
      before : IsWithinThere task q
      before = there_before task q h

      asleep_by : (o : Option Sleeper) → get q.asleep task ≡ o → IsWithinThere task (set_sleeper_slice q task slice o)
      asleep_by None is = before
      asleep_by (Some s) is = record {
        runnable = before.runnable;
        asleep = λ y counts there.
            let x : Sleeper = sleeper_with_slice s slice in
            let now : get (insert q.asleep task x) task ≡ Some x = here_now q.asleep task x in
            let same : x ≡ y = cc in
            subst (SleeperIsWithin b task) same
            (record { no_longer = short; request = (before.asleep s counts is).0.request }, cut_within b task s.lag s.nice slice short);
      }

      by : (o : Option Entry) → get q.runnable task ≡ o → IsWithinThere task (set_entry_slice q task slice o)
      by None is = asleep_by (get q.asleep task) refl
      by (Some e) is = record {
        runnable = λ f there.
            let x : Entry = record e { slice = slice } in
            let now : get (insert q.runnable task x) task ≡ Some x = here_now q.runnable task x in
            let same : x ≡ f = cc in
            let had = before.runnable e is in
            (had.0, subst (EntryIsWithin b task) same (record { no_longer = short; request = had.1.0.request }, had.1.1));
        asleep = before.asleep;
      }

  -- ---- where all are as they were
  as_before : (q r : State) → r.runnable ≡ q.runnable → r.asleep ≡ q.asleep → AllAreWithin w b q → AllAreWithin w b r
  as_before q r same others h = record {
    count = λ t e here. h.count t e (ap (λ (m : Tasks). get m t) (sym same) ∙ here);
    runnable = λ t e here. h.runnable t e (ap (λ (m : Tasks). get m t) (sym same) ∙ here);
    asleep = λ t s counts here. h.asleep t s counts (ap (λ (m : FinMap nat_cmp Sleeper). get m t) (sym others) ∙ here);
  }

  pick_within : (q : State) → AllAreWithin w b q → AllAreWithin w b (picked q)
  pick_within q = as_before q (picked q) (same_tasks q (pick_of q.runnable)) (same_sleepers q (pick_of q.runnable))

  stop_within : (q : State) → AllAreWithin w b q → AllAreWithin w b (nobody_runs q)
  stop_within q = as_before q (nobody_runs q) refl refl

  -- ---- a tick
  abbrev entries_within : Tasks → Type 0
  entries_within tasks = (t : ℕ) (e : Entry) → get tasks t ≡ Some e → (w.counts t ≡ true) × EntryIsWithin b t e

  tick_entries : (q : State) (ns : ℕ) → entries_within q.runnable → entries_within (tick q ns).1.runnable
  tick_entries q ns h =
      tick_cases (λ z. entries_within (z.1).runnable) q ns h h
      (λ p e resched runs here.
      found_at_after (λ u x. (w.counts u ≡ true) × EntryIsWithin b u x) q.runnable p (charged e ns)
      ((h p e here).0, charged_within b p e ns (h p e here).1) h)

  tick_within : (q : State) (ns : ℕ) → AllAreWithin w b q → AllAreWithin w b (ticked q ns)
  tick_within q ns h =
      let all : entries_within (ticked q ns).runnable = tick_entries q ns (λ t e here. (h.count t e here, h.runnable t e here)) in
      record {
        count = λ t e here. (all t e here).0;
        runnable = λ t e here. (all t e here).1;
        asleep = λ t s counts here. h.asleep t s counts (ap (λ (m : FinMap nat_cmp Sleeper). get m t) (sym (sleepers_ticked q ns)) ∙ here);
      }

  -- ---- a rebase
  lower_due : (v d by : ℤ) (request : ℕ) → d ≤ℤ (v +ℤ pos request) → (d -ℤ by) ≤ℤ ((v -ℤ by) +ℤ pos request)
  lower_due v d by request h = omega (arith, ints, h)

  lowered_by : (by : ℤ) (t : ℕ) (o : Option Entry) (f : Entry)
      → ((e : Entry) → o ≡ Some e → (w.counts t ≡ true) × EntryIsWithin b t e) → option_map (lowered_entry by) o ≡ Some f
      → (w.counts t ≡ true) × EntryIsWithin b t f
  lowered_by by t None f h is = cc
  lowered_by by t (Some e) f h is =
      let same : lowered_entry by e ≡ f = cc in
      let had = h e refl in (
        had.0,
        subst (EntryIsWithin b t) same
            (record { no_longer = had.1.0.no_longer; request = had.1.0.request }, lower_due e.v e.d by b.request had.1.1),
      )

  rebased_within : (q : State) → AllAreWithin w b q → AllAreWithin w b (rebased q)
  rebased_within q h =
      let all : entries_within (rebased q).runnable =
      λ t f here. lowered_by (virtual_time q) t (get q.runnable t) f (λ e at. (h.count t e at, h.runnable t e at))
      (sym (get-lowered (virtual_time q) q.runnable t) ∙ here) in
      record {
        count = λ t f here. (all t f here).0;
        runnable = λ t f here. (all t f here).1;
        asleep = h.asleep;
      }

  rebase_within : (q : State) → AllAreWithin w b q → AllAreWithin w b (rebase q).1
  rebase_within q h =
      by (can_rebase q)
    where
      by : (c : Bool) → AllAreWithin w b (cond {A = ℤ × State} c (virtual_time q, rebased q) (pos 0, q)).1
      by true = rebased_within q h
      by false = h

  -- ---- all calls
  within_now : (q : State) → AllAreWithin w b q → IsWithin w b q
  within_now q h = record {
    count = h.count;
    requests = λ t e here. (h.runnable t e here).1;
    credits = λ t s counts here. (h.asleep t s counts here).1;
  }

  within_after : (ran : ℕ) (q : State) (call : Call) → AllAreWithin w b q → IsAllowed w ran q call → LeavesWithin w b call
      → AllAreWithin w b (after_call q call)
  within_after ran q Pick h allowed leaves = pick_within q h
  within_after ran q (Tick ns) h allowed leaves = tick_within q ns h
  within_after ran q (Doze task) h allowed leaves = doze_within q task h
  within_after ran q (Wake task) h allowed counts = wake_within q task counts h
  within_after ran q Yield h allowed never = absurd never
  within_after ran q (SetSlice task slice) h allowed short = slice_within q task slice short h
  within_after ran q Stop h allowed leaves = stop_within q h
  within_after ran q Rebase h allowed leaves = rebase_within q h
  within_after ran q (Touch task r) h allowed rests = touch_within q r task allowed.0 rests allowed.1.1 h

  within_along : (ran : ℕ) (q : State) (calls : List Call) → AllAreWithin w b q → AreAllowed w ran q calls → AllByRecursion (LeavesWithin w b) calls
      → IsWithinAlong w b q calls
  within_along ran q [] h allowed leaves = within_now q h
  within_along ran q (call ∷ calls) h allowed leaves =
      let next : AllAreWithin w b (after_call q call) = within_after ran q call h allowed.0 leaves.0 in
      (within_now q h, within_along (run_after ran call) (after_call q call) calls next allowed.1 leaves.1)

pub bounds_are_kept : BoundsAreKept
bounds_are_kept w b ran q calls h allowed leaves = within_along w b ran q calls h allowed leaves

-- ---- a fresh start
pub fresh_start_is_within : FreshStartIsWithin
fresh_start_is_within w b q v fresh count slices sleepers = record {
  count = count;
  runnable = λ t e here.
      subst (EntryIsWithin b t) (sym (fresh t e here)) (fresh_within b t v e.nice e.slice (slices t e here));
  asleep = sleepers;
}
