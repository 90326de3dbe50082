-- A queue and the same queue lowered by a number answer alike.
use Rattle.std.proofs.Common.{◌≡◌, ℕ, ◌+◌, ◌≤◌, ◌==◌, Bool, true, false, cond, Option, Some, None, refl, sym, ap, subst, ◌∙◌, inl, inr, arith}
use Rattle.std.specs.Prelude.{ℤ, pos, ◌+ℤ◌, ◌-ℤ◌, ◌*ℤ◌, int_le, map}
use Rattle.std.specs.Int.{int_max}
use Rattle.std.specs.{Option.option_map, Ordering.nat_cmp, Ordering.eq_by_cmp, Cmp.nat_cmp_total}
use Rattle.std.specs.FinMap.{empty, contains_key, entries, get, insert, remove, len, get-empty, get-insert}
use Rattle.std.proofs.lemmas.{Bool.Decides.nat_tests, Int.ints}
use Rattle.eevdf_weight.specs.{Limits.is_in_range, Weight.weight_of, Charge.charge_of, Placement.placement_of, Placement.floor_div}
use Rattle.eevdf_queue.specs.{declared.entry.Entry.Entry, State.State, State.Sleeper, State.Contents, Lag.kept_lag, Lag.cut, Lag.limit_of, Lag.lag_by}
use Rattle.eevdf_queue.specs.Sums.{Tasks, sum_weights, sum_moments, time_over, virtual_time, total_weight, total_moment}
use Rattle.eevdf_queue.specs.Moves.{fresh_entry, is_entry_in_range, entry_in_range, with_runnable, request_of}
use Rattle.eevdf_queue.specs.{Candidate.candidate_of, Candidate.is_running, Pick.pick_of, Pick.picked_by, Pick.after_pick, Pick.adopted}
use Rattle.eevdf_queue.specs.Tick.{aged, is_used_up, charged, tick, tick_to, tick_entry, tick_running}
use Rattle.eevdf_queue.specs.Yield.{yielded, yield_now, yield_to, yield_entry, yield_running}
use Rattle.eevdf_queue.specs.Placing.{runtime_of, placement, put}
use Rattle.eevdf_queue.specs.Wake.{wake, wake_to, wake_sleeper, waking_runtime, waking_entry}
use Rattle.eevdf_queue.specs.Doze.{dozing, put_dozing, dozed, doze, dozed_lag, place_of}
use Rattle.eevdf_queue.specs.Renice.{reniced, renice, renice_to, renice_entry, rescaled_lag}
use Rattle.eevdf_queue.specs.Leaving.{leaving, carried, carried_running, stopped, without_entry, leave, leave_running, leaving_asleep, without_sleeper, leave_asleep}
use Rattle.eevdf_queue.specs.{SliceChange.set_slice, SliceChange.set_entry_slice, SliceChange.set_sleeper_slice, SliceChange.sleeper_with_slice}
use Rattle.eevdf_queue.specs.Attributes.{set_reniced, set_sleeper, sleeper_with, begin, begin_sleeper, fresh_sleeper}
use Rattle.eevdf_queue.specs.{Kept.RunnerIsHere, Kept.AreSound}
use Rattle.eevdf_queue.specs.Rebase.{lowered_entry, lowered_tasks, rebased}
use Rattle.eevdf_queue.specs.{Kept.AreInRange, TimeToResched.ends_request, Ascending.sleeping_tasks, Ascending.with_lag}
use Rattle.eevdf_queue.specs.Closing.{first_number, take_any, take_first, take_sleeper}
use Rattle.eevdf_queue.specs.LoweredQueues.{IsLower, AreAlike, JoinAlike, TakenAlike, lowered_contents, LoweredQueueAnswersAlike, RebasedIsLower}
use Rattle.eevdf_queue.specs.declared.answers.TickAnswer.TheVariants as ticks
use Rattle.eevdf_queue.specs.declared.answers.YieldAnswer.TheVariants as yields
use Rattle.eevdf_queue.specs.declared.answers.WakeAnswer.TheVariants as wakes
use Rattle.eevdf_queue.specs.declared.answers.ReniceAnswer.TheVariants as renices
use Rattle.eevdf_queue.specs.declared.answers.SetAnswer.TheVariants as sets
use Rattle.eevdf_queue.specs.{declared.answers.TickAnswer.TickAnswer, declared.answers.YieldAnswer.YieldAnswer, declared.answers.ReniceAnswer.ReniceAnswer}
use Rattle.eevdf_queue.proofs.{Floors.floor_lowered, MapFolds.entries-empty, Mean.no_tasks, ListMaps.same_number, Sound.Asleep, Sound.Places, Waking.later_lower, Waking.further_lower, Waking.same_place}
use Rattle.eevdf_queue.proofs.ShortestTicks.{ends_where, absent_ends}
use Rattle.eevdf_queue.proofs.LoweredMaps.{get-lowered, contains-lowered, len-lowered, weight-lowered, moment-lowered, pick-lowered, candidate-lowered, insert-lowered, remove-lowered}

-- ---- virtual time
zero_is : (n : ℕ) → (n == 0) ≡ true → n ≡ 0
zero_is n h = grind (arith, nat_tests)

some_is : (n : ℕ) → (n == 0) ≡ false → 1 ≤ n
some_is n h = grind (arith, nat_tests)

time_by : (by S base base' : ℤ) (W : ℕ) (b : Bool) → (W == 0) ≡ b → (b ≡ true → base' ≡ base -ℤ by)
    → cond b base' (floor_div (S -ℤ (by *ℤ pos W)) W) ≡ cond b base (floor_div S W) -ℤ by
time_by by S base base' W true e h = h refl
time_by by S base base' W false e h = floor_lowered S by W (some_is W e)

same_distance : (time v by : ℤ) → (time -ℤ by) -ℤ (v -ℤ by) ≡ time -ℤ v
same_distance time v by = omega (arith, ints)

later_lowered : (v by : ℤ) (n : ℕ) → (v -ℤ by) +ℤ pos n ≡ (v +ℤ pos n) -ℤ by
later_lowered v by n = omega (arith, ints)

earlier_lowered : (v by n : ℤ) → (v -ℤ by) -ℤ n ≡ (v -ℤ n) -ℤ by
earlier_lowered v by n = omega (arith, ints)

same_reached : (d v by : ℤ) (n : ℕ) → int_le (d -ℤ by) ((v -ℤ by) +ℤ pos n) ≡ int_le d (v +ℤ pos n)
same_reached d v by n = grind (arith, ints)

-- ---- entries
fresh_lowered : (v by nice : ℤ) (slice : ℕ) → fresh_entry (v -ℤ by) nice slice ≡ lowered_entry by (fresh_entry v nice slice)
fresh_lowered v by nice slice =
    ap (λ (z : ℤ). record { v = v -ℤ by; d = z; nice = nice; slice = slice }) (later_lowered v by (request_of nice slice))

used_up_lowered : (by : ℤ) (e : Entry) (ns : ℕ) → is_used_up (lowered_entry by e) ns ≡ is_used_up e ns
used_up_lowered by e ns = same_reached e.d e.v by (charge_of ns (weight_of e.nice))

charged_lowered : (by : ℤ) (e : Entry) (ns : ℕ) → charged (lowered_entry by e) ns ≡ lowered_entry by (charged e ns)
charged_lowered by e ns =
    ap (λ (z : ℤ). cond (is_used_up (lowered_entry by e) ns) (fresh_entry z e.nice e.slice) (record e { v = z; d = e.d -ℤ by }))
    (later_lowered e.v by (charge_of ns (weight_of e.nice)))
    ∙ ap (λ (b : Bool). cond b (fresh_entry (aged e ns -ℤ by) e.nice e.slice) (record e { v = aged e ns -ℤ by; d = e.d -ℤ by })) (used_up_lowered by e ns)
    ∙ by_use (is_used_up e ns)
  where
    by_use : (b : Bool) → cond b (fresh_entry (aged e ns -ℤ by) e.nice e.slice) (record e { v = aged e ns -ℤ by; d = e.d -ℤ by })
        ≡ lowered_entry by (cond b (fresh_entry (aged e ns) e.nice e.slice) (record e { v = aged e ns }))
    by_use true = fresh_lowered (aged e ns) by e.nice e.slice
    by_use false = refl

yielded_lowered : (by : ℤ) (e : Entry) → yielded (lowered_entry by e) ≡ lowered_entry by (yielded e)
yielded_lowered by e = ap (λ (z : ℤ). record e { v = e.v -ℤ by; d = z }) (later_lowered e.d by (request_of e.nice e.slice))

filled : (m : Tasks) (t : ℕ) (e : Entry) → insert m t e ≡ empty → ⊥
filled m t e h =
    let some : get (insert m t e) t ≡ Some e = get-insert nat_cmp_total m t e t ∙ ap (λ (b : Bool). cond b (Some e) (get m t)) (let same : eq_by_cmp nat_cmp t t ≡ true = grind (arith, nat_tests, same_number t t) in same) in
    let none : get (insert m t e) t ≡ None = ap (λ (x : Tasks). get x t) h ∙ get-empty nat_cmp t in
    cc

placed_by : (by time lag nice : ℤ) (W : ℕ) (b : Bool) → cond b (time -ℤ by) (placement_of (time -ℤ by) W lag (weight_of nice)) ≡ cond b time (placement_of time W lag (weight_of nice)) -ℤ by
placed_by by time lag nice W true = refl
placed_by by time lag nice W false = earlier_lowered time by (floor_div (lag *ℤ pos (W + weight_of nice)) W)

-- ---- a queue and the lower one
-- a task that is put to sleep as one that dozes: the place where it left stays
dozing_lower : (by : ℤ) (q r : State) → IsLower by q r → (p : Contents) → IsLower by (put_dozing q p) (put_dozing r (lowered_contents by p))
dozing_lower by q r h p = record {
  runnable = h.runnable;
  running = h.running;
  asleep = ap (λ n. insert n p.task (dozing p)) h.asleep;
  base = h.base;
  places =
      ap (λ n. insert n p.task ((p.start -ℤ by) +ℤ r.shift)) h.places
      ∙ ap (insert q.places p.task) (same_place p.start q.shift r.shift by h.shift);
  shift = h.shift;
}

module _ (by : ℤ) (q r : State) (h : IsLower by q r) where
  time_lower : virtual_time r ≡ virtual_time q -ℤ by
  time_lower =
      ap (λ (m : Tasks). time_over (total_weight m) (total_moment m) r.base) h.runnable
      ∙ ap (λ (w : ℕ). time_over w (total_moment (lowered_tasks by q.runnable)) r.base) (weight-lowered by q.runnable)
      ∙ ap (λ (s : ℤ). time_over (total_weight q.runnable) s r.base) (moment-lowered by q.runnable)
      ∙ time_by by (total_moment q.runnable) q.base r.base (total_weight q.runnable) (total_weight q.runnable == 0) refl
      (λ z. h.base (no_tasks q.runnable (zero_is (total_weight q.runnable) z)))

  load_lower : total_weight r.runnable ≡ total_weight q.runnable
  load_lower = ap total_weight h.runnable ∙ weight-lowered by q.runnable

  entry_lower : (t : ℕ) → get r.runnable t ≡ option_map (lowered_entry by) (get q.runnable t)
  entry_lower t = ap (λ (m : Tasks). get m t) h.runnable ∙ get-lowered by q.runnable t

  lag_lower : (e : Entry) → kept_lag r (lowered_entry by e) ≡ kept_lag q e
  lag_lower e = ap (λ (z : ℤ). cut z (limit_of e)) (ap (λ (z : ℤ). z -ℤ (e.v -ℤ by)) time_lower ∙ same_distance (virtual_time q) e.v by)

  changed : (t : ℕ) (e : Entry) → IsLower by (record q { runnable = insert q.runnable t e }) (record r { runnable = insert r.runnable t (lowered_entry by e) })
  changed t e = record {
    runnable = ap (λ (m : Tasks). insert m t (lowered_entry by e)) h.runnable ∙ sym (insert-lowered by q.runnable t e);
    running = h.running;
    asleep = h.asleep;
    base = λ none. absurd (filled q.runnable t e none);
    places = h.places;
    shift = h.shift;
  }

  pick_lower : (o : Option ℕ) → IsLower by (picked_by q o) (picked_by r o)
  pick_lower None = h
  pick_lower (Some t) = record { runnable = h.runnable; running = refl; asleep = h.asleep; base = h.base; places = h.places; shift = h.shift }

  adopt_where : (t : ℕ) (b : Bool) → IsLower by (cond b (picked_by q (Some t)) q) (cond b (picked_by r (Some t)) r)
  adopt_where t false = h
  adopt_where t true = pick_lower (Some t)

  adopt_lower : (t : ℕ) → IsLower by (adopted q t) (adopted r t)
  adopt_lower t =
      subst (λ (b : Bool). IsLower by (adopted q t) (cond b (picked_by r (Some t)) r))
      (sym (ap (λ (m : Tasks). contains_key m t) h.runnable ∙ contains-lowered by q.runnable t))
      (adopt_where t (contains_key q.runnable t))

  lag_by_entry : (o : Option Entry) (s : Option Sleeper) → lag_by r (option_map (lowered_entry by) o) s ≡ lag_by q o s
  lag_by_entry None s = refl
  lag_by_entry (Some e) s = ap (λ (z : ℤ). Some z) (lag_lower e)

  -- a tick and a yield
  tick_where : (t : ℕ) (u : Bool) (x : Entry) (b c : Bool) → AreAlike ticks.Range by
      (cond {A = TickAnswer × State} b (ticks.Charged t u, record q { runnable = insert q.runnable t x }) (ticks.Range, q))
      (cond {A = TickAnswer × State} c (ticks.Charged t u, record r { runnable = insert r.runnable t (lowered_entry by x) }) (ticks.Range, r))
  tick_where t u x false c = inl refl
  tick_where t u x true false = inr (inl refl)
  tick_where t u x true true = inr (inr (refl, changed t x))

  tick_of : (t ns : ℕ) (o : Option Entry) → AreAlike ticks.Range by (tick_entry q t o ns) (tick_entry r t (option_map (lowered_entry by) o) ns)
  tick_of t ns None = inr (inr (refl, h))
  tick_of t ns (Some e) =
      subst (λ (x : Entry). AreAlike ticks.Range by (tick_entry q t (Some e) ns) (tick_to r t (is_used_up (lowered_entry by e) ns) x)) (sym (charged_lowered by e ns))
      (subst (λ (u : Bool). AreAlike ticks.Range by (tick_entry q t (Some e) ns) (tick_to r t u (lowered_entry by (charged e ns)))) (sym (used_up_lowered by e ns))
      (tick_where t (is_used_up e ns) (charged e ns) (is_entry_in_range (charged e ns)) (is_entry_in_range (lowered_entry by (charged e ns)))))

  tick_run : (ns : ℕ) (o : Option ℕ) → AreAlike ticks.Range by (tick_running q o ns) (tick_running r o ns)
  tick_run ns None = inr (inr (refl, h))
  tick_run ns (Some t) = subst (λ (o : Option Entry). AreAlike ticks.Range by (tick_running q (Some t) ns) (tick_entry r t o ns)) (sym (entry_lower t)) (tick_of t ns (get q.runnable t))

  yield_where : (t : ℕ) (x : Entry) (b c : Bool) → AreAlike yields.Range by
      (cond {A = YieldAnswer × State} b (yields.Yielded, record q { runnable = insert q.runnable t x }) (yields.Range, q))
      (cond {A = YieldAnswer × State} c (yields.Yielded, record r { runnable = insert r.runnable t (lowered_entry by x) }) (yields.Range, r))
  yield_where t x false c = inl refl
  yield_where t x true false = inr (inl refl)
  yield_where t x true true = inr (inr (refl, changed t x))

  yield_of : (t : ℕ) (o : Option Entry) → AreAlike yields.Range by (yield_entry q t o) (yield_entry r t (option_map (lowered_entry by) o))
  yield_of t None = inr (inr (refl, h))
  yield_of t (Some e) =
      subst (λ (x : Entry). AreAlike yields.Range by (yield_entry q t (Some e)) (yield_to r t x)) (sym (yielded_lowered by e))
      (yield_where t (yielded e) (is_in_range (yielded e).d) (is_in_range (lowered_entry by (yielded e)).d))

  yield_run : (o : Option ℕ) → AreAlike yields.Range by (yield_running q o) (yield_running r o)
  yield_run None = inr (inr (refl, h))
  yield_run (Some t) = subst (λ (o : Option Entry). AreAlike yields.Range by (yield_running q (Some t)) (yield_entry r t o)) (sym (entry_lower t)) (yield_of t (get q.runnable t))

  -- a task that joins
  join_where : (t : ℕ) (x : Entry) (b c : Bool) → JoinAlike by (with_runnable q t (cond b (Some x) None)) (with_runnable r t (cond c (Some (lowered_entry by x)) None))
  join_where t x false c = tt
  join_where t x true false = tt
  join_where t x true true = changed t x

  join_at : (t : ℕ) (v v' nice : ℤ) (slice : ℕ) → v' ≡ v -ℤ by → JoinAlike by (with_runnable q t (entry_in_range (fresh_entry v nice slice))) (with_runnable r t (entry_in_range (fresh_entry v' nice slice)))
  join_at t v v' nice slice e =
      let x : Entry = fresh_entry v nice slice in
      subst (λ (y : Entry). JoinAlike by (with_runnable q t (entry_in_range x)) (with_runnable r t (entry_in_range y)))
      (sym (ap (λ (z : ℤ). fresh_entry z nice slice) e ∙ fresh_lowered v by nice slice))
      (join_where t x (is_entry_in_range x) (is_entry_in_range (lowered_entry by x)))

  placement_lower : (s : Sleeper) → placement r s ≡ placement q s -ℤ by
  placement_lower s =
      ap (λ (z : ℤ). runtime_of z (total_weight r.runnable) s.lag s.nice) time_lower
      ∙ ap (λ (w : ℕ). runtime_of (virtual_time q -ℤ by) w s.lag s.nice) load_lower
      ∙ placed_by by (virtual_time q) s.lag s.nice (total_weight q.runnable) (total_weight q.runnable == 0)

  put_lower : (t : ℕ) (s : Sleeper) → JoinAlike by (put q t s) (put r t s)
  put_lower t s = join_at t (placement q s) (placement r s) s.nice s.slice (placement_lower s)

  -- a task that leaves
  leave_of : (t : ℕ) (o : Option Entry) → IsLower by (without_entry q t o) (without_entry r t (option_map (lowered_entry by) o))
  leave_of t None = h
  leave_of t (Some e) = record {
    runnable = ap (λ (m : Tasks). remove m t) h.runnable ∙ sym (remove-lowered by q.runnable t);
    running = ap (λ (o : Option ℕ). stopped o t) h.running;
    asleep = h.asleep;
    base = λ _. refl;
    places = h.places;
    shift = h.shift;
  }

  leave_lower : (t : ℕ) → IsLower by (leave q t) (leave r t)
  leave_lower t = subst (λ (o : Option Entry). IsLower by (leave q t) (without_entry r t o)) (sym (entry_lower t)) (leave_of t (get q.runnable t))

  carried_of : (t : ℕ) (o : Option Entry) → option_map (λ (e : Entry). leaving t (kept_lag r e) e) (option_map (lowered_entry by) o)
      ≡ option_map (lowered_contents by) (option_map (λ (e : Entry). leaving t (kept_lag q e) e) o)
  carried_of t None = refl
  carried_of t (Some e) = ap (λ (z : ℤ). Some (leaving t z (lowered_entry by e))) (lag_lower e)

  carried_lower : (t : ℕ) → carried r t ≡ option_map (lowered_contents by) (carried q t)
  carried_lower t = ap (option_map (λ (e : Entry). leaving t (kept_lag r e) e)) (entry_lower t) ∙ carried_of t (get q.runnable t)

  asleep_of : (t : ℕ) (o : Option Sleeper) → IsLower by (without_sleeper q t o) (without_sleeper r t o)
  asleep_of t None = h
  asleep_of t (Some s) = record {
    runnable = h.runnable;
    running = h.running;
    asleep = ap (λ n. remove n t) h.asleep;
    base = h.base;
    places = ap (λ n. remove n t) h.places;
    shift = h.shift;
  }

  carried_asleep_of : (t : ℕ) (o : Option Sleeper) → option_map (leaving_asleep r t) o ≡ option_map (lowered_contents by) (option_map (leaving_asleep q t) o)
  carried_asleep_of t None = refl
  carried_asleep_of t (Some s) =
      ap (λ (z : ℤ). Some (record { task = t; nice = s.nice; slice = s.slice; start = z; lag = s.lag })) time_lower

  -- a wake
  wake_to_lower : (t : ℕ) (x y : Option State) → JoinAlike by x y → AreAlike wakes.Range by (wake_to q t x) (wake_to r t y)
  wake_to_lower t None y k = inl refl
  wake_to_lower t (Some a) None k = inr (inl refl)
  wake_to_lower t (Some a) (Some b) k = inr (inr (
    refl,
    record {
      runnable = k.runnable;
      running = k.running;
      asleep = ap (λ n. remove n t) h.asleep;
      base = k.base;
      places = ap (λ n. remove n t) h.places;
      shift = k.shift;
    },
  ))

  waking_lower : (s : Sleeper) (place : Option ℤ) → waking_runtime r s place ≡ waking_runtime q s place -ℤ by
  waking_lower s None = placement_lower s
  waking_lower s (Some place) =
      ap (λ (z : ℤ). int_max (place -ℤ z) (placement r s)) h.shift
      ∙ ap (int_max (place -ℤ (q.shift +ℤ by))) (placement_lower s)
      ∙ later_lower place q.shift (placement q s) by

  waking_alike : (t : ℕ) (s : Sleeper) (place : Option ℤ) → JoinAlike by (with_runnable q t (waking_entry q s place)) (with_runnable r t (waking_entry r s place))
  waking_alike t s place = join_at t (waking_runtime q s place) (waking_runtime r s place) s.nice s.slice (waking_lower s place)

  wake_of : (t : ℕ) (o : Option Sleeper) → AreAlike wakes.Range by (wake_sleeper q t o) (wake_sleeper r t o)
  wake_of t None = inr (inr (refl, h))
  wake_of t (Some s) =
      subst (λ (p : Places). AreAlike wakes.Range by (wake_sleeper q t (Some s)) (wake_to r t (with_runnable r t (waking_entry r s (get p t))))) (sym h.places)
      (wake_to_lower t _ _ (waking_alike t s (get q.places t)))

  -- a doze
  runner_where : (t : ℕ) (b : Bool) → cond b (carried r t) None ≡ option_map (lowered_contents by) (cond b (carried q t) None)
  runner_where t true = carried_lower t
  runner_where t false = refl

  runner_lower : (t : ℕ) → carried_running r t ≡ option_map (lowered_contents by) (carried_running q t)
  runner_lower t = ap (λ (o : Option ℕ). cond (is_running o t) (carried r t) None) h.running ∙ runner_where t (is_running q.running t)

  lag_of_carried : (o : Option Contents) → option_map (λ (p : Contents). p.lag) (option_map (lowered_contents by) o) ≡ option_map (λ (p : Contents). p.lag) o
  lag_of_carried None = refl
  lag_of_carried (Some p) = refl

  dozed_lag_lower : (t : ℕ) → dozed_lag r t ≡ dozed_lag q t
  dozed_lag_lower t = ap (option_map (λ (p : Contents). p.lag)) (runner_lower t) ∙ lag_of_carried (carried_running q t)

  left_where : (t : ℕ) (b : Bool) → IsLower by (cond b (leave q t) q) (cond b (leave r t) r)
  left_where t true = leave_lower t
  left_where t false = h

  left_running : (t : ℕ) → IsLower by (leave_running q t) (leave_running r t)
  left_running t =
      subst (λ (o : Option ℕ). IsLower by (leave_running q t) (cond (is_running o t) (leave r t) r)) (sym h.running) (left_where t (is_running q.running t))

  doze_of : (t : ℕ) (o : Option Contents) → IsLower by (dozed q t o) (dozed r t (option_map (lowered_contents by) o))
  doze_of t None = h
  doze_of t (Some p) = dozing_lower by (leave_running q t) (leave_running r t) (left_running t) p

  place_where : (o : Option ℤ) → option_map (λ (place : ℤ). place -ℤ r.shift) o ≡ option_map (λ (place : ℤ). place -ℤ by) (option_map (λ (place : ℤ). place -ℤ q.shift) o)
  place_where None = refl
  place_where (Some place) = ap (λ (z : ℤ). Some z) (further_lower place q.shift r.shift by h.shift)

  place_lower : (t : ℕ) → place_of r t ≡ option_map (λ (place : ℤ). place -ℤ by) (place_of q t)
  place_lower t = ap (λ (p : Places). option_map (λ (place : ℤ). place -ℤ r.shift) (get p t)) h.places ∙ place_where (get q.places t)

  -- another slice
  sleeper_of : (t slice : ℕ) (o : Option Sleeper) → IsLower by (set_sleeper_slice q t slice o) (set_sleeper_slice r t slice o)
  sleeper_of t slice None = h
  sleeper_of t slice (Some s) = record { runnable = h.runnable; running = h.running; asleep = ap (λ n. insert n t (sleeper_with_slice s slice)) h.asleep; base = h.base; places = h.places; shift = h.shift }

  slice_of : (t slice : ℕ) (o : Option Entry) → IsLower by (set_entry_slice q t slice o) (set_entry_slice r t slice (option_map (lowered_entry by) o))
  slice_of t slice None = subst (λ n. IsLower by (set_sleeper_slice q t slice (get q.asleep t)) (set_sleeper_slice r t slice (get n t))) (sym h.asleep) (sleeper_of t slice (get q.asleep t))
  slice_of t slice (Some e) = changed t (record e { slice = slice })

  slice_lower : (t slice : ℕ) → IsLower by (set_slice q t slice) (set_slice r t slice)
  slice_lower t slice = subst (λ (o : Option Entry). IsLower by (set_slice q t slice) (set_entry_slice r t slice o)) (sym (entry_lower t)) (slice_of t slice (get q.runnable t))

  -- a sleeping task that begins anew
  begin_of : (t : ℕ) (nice : ℤ) (slice : ℕ) (o : Option Sleeper) → IsLower by (begin_sleeper q t nice slice o) (begin_sleeper r t nice slice o)
  begin_of t nice slice None = h
  begin_of t nice slice (Some s) = record {
    runnable = h.runnable;
    running = h.running;
    asleep = ap (λ n. insert n t (fresh_sleeper nice slice)) h.asleep;
    base = h.base;
    places = ap (λ n. remove n t) h.places;
    shift = h.shift;
  }

  -- another nice level
  renice_to_lower : (x y : Option State) → JoinAlike by x y → AreAlike renices.Range by (renice_to q x) (renice_to r y)
  renice_to_lower None y k = inl refl
  renice_to_lower (Some a) None k = inr (inl refl)
  renice_to_lower (Some a) (Some b) k = inr (inr (refl, record { runnable = k.runnable; running = h.running; asleep = k.asleep; base = k.base; places = k.places; shift = k.shift }))

-- of two queues that are what the others leave
put_left : (by : ℤ) (q r a b : State) → IsLower by q r → IsLower by a b → (t : ℕ) (s s' : Sleeper) → s' ≡ s → AreAlike renices.Range by (renice_to q (put a t s)) (renice_to r (put b t s'))
put_left by q r a b h k t s s' e =
    subst (λ (x : Sleeper). AreAlike renices.Range by (renice_to q (put a t s)) (renice_to r (put b t x))) (sym e)
    (renice_to_lower by q r h (put a t s) (put b t s) (put_lower by a b k t s))

module _ (by : ℤ) (q r : State) (h : IsLower by q r) where
  renice_of : (t : ℕ) (nice : ℤ) (o : Option Entry) → AreAlike renices.Range by (renice_entry q t nice o) (renice_entry r t nice (option_map (lowered_entry by) o))
  renice_of t nice None = inr (inr (refl, h))
  renice_of t nice (Some e) =
      put_left by q r (leave q t) (leave r t) h (leave_lower by q r h t) t (reniced q e nice) (reniced r (lowered_entry by e) nice)
      (ap (λ (z : ℤ). record { lag = rescaled_lag z e nice; nice = nice; slice = e.slice }) (lag_lower by q r h e))

  renice_lower : (t : ℕ) (nice : ℤ) → AreAlike renices.Range by (renice q t nice) (renice r t nice)
  renice_lower t nice = subst (λ (o : Option Entry). AreAlike renices.Range by (renice q t nice) (renice_entry r t nice o)) (sym (entry_lower by q r h t)) (renice_of t nice (get q.runnable t))

  -- another nice level and slice
  sleeper_set : (t : ℕ) (nice : ℤ) (slice : ℕ) (o : Option Sleeper) → AreAlike sets.Range by (set_sleeper q t nice slice o) (set_sleeper r t nice slice o)
  sleeper_set t nice slice None = inr (inr (refl, h))
  sleeper_set t nice slice (Some s) =
      inr (inr (refl, record { runnable = h.runnable; running = h.running; asleep = ap (λ n. insert n t (sleeper_with s nice slice)) h.asleep; base = h.base; places = h.places; shift = h.shift }))

  set_by : (t : ℕ) (nice : ℤ) (slice : ℕ) (x : ReniceAnswer) (a b : State) → IsLower by a b
      → AreAlike sets.Range by (set_reniced q t nice slice x a) (set_reniced r t nice slice x b)
  set_by t nice slice renices.Reniced a b k = inr (inr (refl, slice_lower by a b k t slice))
  set_by t nice slice renices.NotHere a b k =
      subst (λ n. AreAlike sets.Range by (set_sleeper q t nice slice (get q.asleep t)) (set_sleeper r t nice slice (get n t))) (sym h.asleep) (sleeper_set t nice slice (get q.asleep t))
  set_by t nice slice renices.Range a b k = inl refl

  set_alike : (t : ℕ) (nice : ℤ) (slice : ℕ) (x y : ReniceAnswer) (a b : State) → AreAlike renices.Range by (x, a) (y, b)
      → AreAlike sets.Range by (set_reniced q t nice slice x a) (set_reniced r t nice slice y b)
  set_alike t nice slice x y a b (inl e) = inl (ap (λ (z : ReniceAnswer). (set_reniced q t nice slice z a).0) e)
  set_alike t nice slice x y a b (inr (inl e)) = inr (inl (ap (λ (z : ReniceAnswer). (set_reniced r t nice slice z b).0) e))
  set_alike t nice slice x y a b (inr (inr k)) =
      subst (λ (z : ReniceAnswer). AreAlike sets.Range by (set_reniced q t nice slice x a) (set_reniced r t nice slice z b)) k.0 (set_by t nice slice x a b k.1)

-- the ticks that use the running task's request up
ends_alike : (by : ℤ) (q r : State) → IsLower by q r → AreInRange q.runnable → AreInRange r.runnable → (ns t : ℕ) (o : Option Entry)
    → Some t ≡ q.running → get q.runnable t ≡ o → ends_request (tick r ns).0 ≡ ends_request (tick q ns).0
ends_alike by q r h i j ns t None runs here =
    absent_ends r t ns (runs ∙ sym h.running) (entry_lower by q r h t ∙ ap (option_map (lowered_entry by)) here)
    ∙ sym (absent_ends q t ns runs here)
ends_alike by q r h i j ns t (Some e) runs here =
    let low : get r.runnable t ≡ Some (lowered_entry by e) = entry_lower by q r h t ∙ ap (option_map (lowered_entry by)) here in
    ends_where r t (lowered_entry by e) ns (runs ∙ sym h.running) low (j t (lowered_entry by e) low).1
    ∙ used_up_lowered by e ns
    ∙ sym (ends_where q t e ns runs here (i t e here).1)

resched_alike : (by : ℤ) (q r : State) → IsLower by q r → AreInRange q.runnable → AreInRange r.runnable → (ns : ℕ) (o : Option ℕ)
    → o ≡ q.running → ends_request (tick r ns).0 ≡ ends_request (tick q ns).0
resched_alike by q r h i j ns None runs =
    ap (λ (o : Option ℕ). ends_request (tick_running r o ns).0) (h.running ∙ sym runs)
    ∙ sym (ap (λ (o : Option ℕ). ends_request (tick_running q o ns).0) (sym runs))
resched_alike by q r h i j ns (Some t) runs = ends_alike by q r h i j ns t (get q.runnable t) runs refl

-- a task taken out, whichever it is
module _ (by : ℤ) (q r : State) (h : IsLower by q r) where
  sleeper_taken : (o : Option ℕ) → TakenAlike by (take_sleeper q o) (take_sleeper r o)
  sleeper_taken None = (refl, h)
  sleeper_taken (Some t) = (
    ap (λ n. option_map (leaving_asleep r t) (get n t)) h.asleep ∙ carried_asleep_of by q r h t (get q.asleep t),
    subst (λ n. IsLower by (leave_asleep q t) (without_sleeper r t (get n t))) (sym h.asleep) (asleep_of by q r h t (get q.asleep t)),
  )

  first_taken : (o : Option ℕ) → TakenAlike by (take_first q o) (take_first r o)
  first_taken None =
      subst (λ n. TakenAlike by (take_sleeper q (first_number (sleeping_tasks q))) (take_sleeper r (first_number (map with_lag (entries n)))))
      (sym h.asleep) (sleeper_taken (first_number (sleeping_tasks q)))
  first_taken (Some t) = (carried_lower by q r h t, leave_lower by q r h t)

pub lowered_queue_answers_alike : LoweredQueueAnswersAlike
lowered_queue_answers_alike by q r h = record {
  time = time_lower by q r h;
  load = load_lower by q r h;
  moment = ap total_moment h.runnable ∙ moment-lowered by q.runnable;
  count = ap (λ (m : Tasks). len m) h.runnable ∙ len-lowered by q.runnable;
  entry = entry_lower by q r h;
  lag = λ t.
      ap (λ (o : Option Entry). lag_by r o (get r.asleep t)) (entry_lower by q r h t)
      ∙ ap (λ n. lag_by r (option_map (lowered_entry by) (get q.runnable t)) (get n t)) h.asleep
      ∙ lag_by_entry by q r h (get q.runnable t) (get q.asleep t);
  candidate = ap (λ (m : Tasks). candidate_of m r.running) h.runnable ∙ candidate-lowered by q.runnable r.running ∙ ap (candidate_of q.runnable) h.running;
  pick = ap pick_of h.runnable ∙ pick-lowered by q.runnable;
  picked = subst (λ (o : Option ℕ). IsLower by (after_pick q) (picked_by r o)) (sym (ap pick_of h.runnable ∙ pick-lowered by q.runnable)) (pick_lower by q r h (pick_of q.runnable));
  adopted = adopt_lower by q r h;
  resched = λ i j ns. resched_alike by q r h i j ns q.running refl;
  tick = λ ns. subst (λ (o : Option ℕ). AreAlike ticks.Range by (tick q ns) (tick_running r o ns)) (sym h.running) (tick_run by q r h ns q.running);
  yields = subst (λ (o : Option ℕ). AreAlike yields.Range by (yield_now q) (yield_running r o)) (sym h.running) (yield_run by q r h q.running);
  wake = λ t. subst (λ n. AreAlike wakes.Range by (wake q t) (wake_sleeper r t (get n t))) (sym h.asleep) (wake_of by q r h t (get q.asleep t));
  dozed_lag = dozed_lag_lower by q r h;
  doze = λ t. subst (λ (o : Option Contents). IsLower by (doze q t) (dozed r t o)) (sym (runner_lower by q r h t)) (doze_of by q r h t (carried_running q t));
  place = place_lower by q r h;
  renice = renice_lower by q r h;
  set_slice = slice_lower by q r h;
  set = λ t nice slice. set_alike by q r h t nice slice (renice q t nice).0 (renice r t nice).0 (renice q t nice).1 (renice r t nice).1 (renice_lower by q r h t nice);
  begin = λ t nice slice. subst (λ n. IsLower by (begin q t nice slice) (begin_sleeper r t nice slice (get n t))) (sym h.asleep) (begin_of by q r h t nice slice (get q.asleep t));
  stopped = record { runnable = h.runnable; running = refl; asleep = h.asleep; base = h.base; places = h.places; shift = h.shift };
  put = put_lower by q r h;
  admit = λ p. join_at by q r h p.task p.start (p.start -ℤ by) p.nice p.slice refl;
  put_asleep = λ p. record { runnable = h.runnable; running = h.running; asleep = ap (λ n. insert n p.task (record { lag = p.lag; nice = p.nice; slice = p.slice })) h.asleep; base = h.base; places = h.places; shift = h.shift };
  put_dozing = dozing_lower by q r h;
  carried = carried_lower by q r h;
  left = leave_lower by q r h;
  carried_asleep = λ t. ap (λ n. option_map (leaving_asleep r t) (get n t)) h.asleep ∙ carried_asleep_of by q r h t (get q.asleep t);
  left_asleep = λ t. subst (λ n. IsLower by (leave_asleep q t) (without_sleeper r t (get n t))) (sym h.asleep) (asleep_of by q r h t (get q.asleep t));
  taken = subst (λ (o : Option ℕ). TakenAlike by (take_any q) (take_first r o)) (sym (ap pick_of h.runnable ∙ pick-lowered by q.runnable)) (first_taken by q r h (pick_of q.runnable));
}

-- ---- the queue that a rebase leaves
pub rebased_is_lower : RebasedIsLower
rebased_is_lower q = record {
  runnable = refl;
  running = refl;
  asleep = refl;
  places = refl;
  shift = refl;
  base = λ none. none_then (virtual_time q) q.base (ap (λ (m : Tasks). time_over (total_weight m) (total_moment m) q.base) none ∙ base_over q.base);
}
  where
    base_over : (base : ℤ) → time_over (total_weight empty) (total_moment empty) base ≡ base
    base_over base = ap (λ es. time_over (sum_weights es) (sum_moments es) base) entries-empty

    none_then : (time base : ℤ) → time ≡ base → pos 0 ≡ base -ℤ time
    none_then time base e = omega (arith, ints, e)

itself_less : (z : ℤ) → z -ℤ z ≡ pos 0
itself_less z = omega (arith, ints)

pub rebased_time : (q : State) → virtual_time (rebased q) ≡ pos 0
rebased_time q = time_lower (virtual_time q) q (rebased q) (rebased_is_lower q) ∙ itself_less (virtual_time q)

-- ---- what a queue keeps
runs_lowered : (by : ℤ) (m : Tasks) (r : Option ℕ) → RunnerIsHere m r → RunnerIsHere (lowered_tasks by m) r
runs_lowered by m None h = tt
runs_lowered by m (Some t) h = contains-lowered by m t ∙ h

pub sound_lowered : (m m' : Tasks) (r : Option ℕ) (n : Asleep) (b by : ℤ) → m' ≡ lowered_tasks by m → AreSound m r n b
    → AreSound m' r n (pos 0)
sound_lowered m m' r n b by is h =
    subst (λ (x : Tasks). AreSound x r n (pos 0)) (sym is) (record {
      runs = runs_lowered by m r h.runs;
      apart = λ t here. h.apart t (sym (contains-lowered by m t) ∙ here);
      based = refl;
    })
