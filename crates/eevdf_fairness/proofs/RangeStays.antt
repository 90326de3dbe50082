-- A deed that is out of range leaves the queues as they were.
use Rattle.std.proofs.Common.{◌≡◌, ℕ, Bool, true, false, cond, Option, Some, None, refl}
use Rattle.std.specs.Prelude.{ℤ}
use Rattle.std.specs.FinMap.{get, insert}
use Rattle.eevdf_weight.specs.Limits.{is_in_range}
use Rattle.eevdf_queue.specs.{declared.entry.Entry.Entry, declared.sleeper.Sleeper.Sleeper, State.State, Moves.is_entry_in_range, Moves.with_runnable}
use Rattle.eevdf_queue.specs.{declared.answers.TickAnswer.TickAnswer, declared.answers.YieldAnswer.YieldAnswer, declared.answers.ReniceAnswer.ReniceAnswer}
use Rattle.eevdf_queue.specs.Tick.{is_used_up, charged, tick, tick_entry, tick_running}
use Rattle.eevdf_queue.specs.Yield.{yielded, yield_now, yield_entry, yield_running}
use Rattle.eevdf_queue.specs.{Wake.wake, Wake.wake_to, Wake.wake_sleeper, Wake.waking_entry, Renice.renice, Renice.renice_to, Renice.renice_entry, Renice.reniced}
use Rattle.eevdf_queue.specs.{Placing.put, Leaving.leave, Attributes.set, Attributes.set_reniced, Attributes.set_sleeper}
use Rattle.eevdf_queue.specs.declared.answers.TickAnswer.TheVariants as ticks
use Rattle.eevdf_queue.specs.declared.answers.YieldAnswer.TheVariants as yields
use Rattle.eevdf_queue.specs.declared.answers.WakeAnswer.TheVariants as wakes
use Rattle.eevdf_queue.specs.declared.answers.ReniceAnswer.TheVariants as renices
use Rattle.eevdf_queue.specs.declared.answers.SetAnswer.TheVariants as sets

module _ (q : State) where
  -- ---- a tick and a yield
  tick_where : (t : ℕ) (u : Bool) (e : Entry) (b : Bool) → (cond {A = TickAnswer × State} b (ticks.Charged t u, record q { runnable = insert q.runnable t e }) (ticks.Range, q)).0 ≡ ticks.Range
      → (cond {A = TickAnswer × State} b (ticks.Charged t u, record q { runnable = insert q.runnable t e }) (ticks.Range, q)).1 ≡ q
  tick_where t u e true is = cc
  tick_where t u e false is = refl

  tick_of : (t ns : ℕ) (o : Option Entry) → (tick_entry q t o ns).0 ≡ ticks.Range → (tick_entry q t o ns).1 ≡ q
  tick_of t ns None is = cc
  tick_of t ns (Some e) is = tick_where t (is_used_up e ns) (charged e ns) (is_entry_in_range (charged e ns)) is

  tick_run : (ns : ℕ) (o : Option ℕ) → (tick_running q o ns).0 ≡ ticks.Range → (tick_running q o ns).1 ≡ q
  tick_run ns None is = cc
  tick_run ns (Some t) is = tick_of t ns (get q.runnable t) is

  pub tick_stays : (ns : ℕ) → (tick q ns).0 ≡ ticks.Range → (tick q ns).1 ≡ q
  tick_stays ns is = tick_run ns q.running is

  yield_where : (t : ℕ) (e : Entry) (b : Bool) → (cond {A = YieldAnswer × State} b (yields.Yielded, record q { runnable = insert q.runnable t e }) (yields.Range, q)).0 ≡ yields.Range
      → (cond {A = YieldAnswer × State} b (yields.Yielded, record q { runnable = insert q.runnable t e }) (yields.Range, q)).1 ≡ q
  yield_where t e true is = cc
  yield_where t e false is = refl

  yield_of : (t : ℕ) (o : Option Entry) → (yield_entry q t o).0 ≡ yields.Range → (yield_entry q t o).1 ≡ q
  yield_of t None is = cc
  yield_of t (Some e) is = yield_where t (yielded e) (is_in_range (yielded e).d) is

  yield_run : (o : Option ℕ) → (yield_running q o).0 ≡ yields.Range → (yield_running q o).1 ≡ q
  yield_run None is = cc
  yield_run (Some t) is = yield_of t (get q.runnable t) is

  pub yield_stays : (yield_now q).0 ≡ yields.Range → (yield_now q).1 ≡ q
  yield_stays is = yield_run q.running is

  -- ---- a wake
  wake_where : (t : ℕ) (o : Option State) → (wake_to q t o).0 ≡ wakes.Range → (wake_to q t o).1 ≡ q
  wake_where t None is = refl
  wake_where t (Some joined) is = cc

  wake_of : (t : ℕ) (o : Option Sleeper) → (wake_sleeper q t o).0 ≡ wakes.Range → (wake_sleeper q t o).1 ≡ q
  wake_of t None is = cc
  wake_of t (Some s) is = wake_where t (with_runnable q t (waking_entry q s (get q.places t))) is

  pub wake_stays : (t : ℕ) → (wake q t).0 ≡ wakes.Range → (wake q t).1 ≡ q
  wake_stays t is = wake_of t (get q.asleep t) is

  -- ---- another nice level, and another slice besides
  renice_where : (o : Option State) → (renice_to q o).0 ≡ renices.Range → (renice_to q o).1 ≡ q
  renice_where None is = refl
  renice_where (Some joined) is = cc

  renice_of : (t : ℕ) (nice : ℤ) (o : Option Entry) → (renice_entry q t nice o).0 ≡ renices.Range → (renice_entry q t nice o).1 ≡ q
  renice_of t nice None is = cc
  renice_of t nice (Some e) is = renice_where (put (leave q t) t (reniced q e nice)) is

  pub renice_stays : (t : ℕ) (nice : ℤ) → (renice q t nice).0 ≡ renices.Range → (renice q t nice).1 ≡ q
  renice_stays t nice is = renice_of t nice (get q.runnable t) is

  sleeper_of : (t : ℕ) (nice : ℤ) (slice : ℕ) (o : Option Sleeper) → (set_sleeper q t nice slice o).0 ≡ sets.Range → (set_sleeper q t nice slice o).1 ≡ q
  sleeper_of t nice slice None is = cc
  sleeper_of t nice slice (Some s) is = cc

  set_of : (t : ℕ) (nice : ℤ) (slice : ℕ) (a : ReniceAnswer) (joined : State) → (set_reniced q t nice slice a joined).0 ≡ sets.Range → (set_reniced q t nice slice a joined).1 ≡ q
  set_of t nice slice renices.Reniced joined is = cc
  set_of t nice slice renices.NotHere joined is = sleeper_of t nice slice (get q.asleep t) is
  set_of t nice slice renices.Range joined is = refl

  pub set_stays : (t : ℕ) (nice : ℤ) (slice : ℕ) → (set q t nice slice).0 ≡ sets.Range → (set q t nice slice).1 ≡ q
  set_stays t nice slice is = set_of t nice slice (renice q t nice).0 (renice q t nice).1 is
