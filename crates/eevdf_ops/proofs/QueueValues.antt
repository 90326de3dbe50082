-- What holds of the nice level and the slice of each task of a queue, after a step on the queue.
use Rattle.std.proofs.Common.{◌≡◌, ℕ, Bool, true, false, cond, refl, sym, subst, ◌∙◌}
use Rattle.std.specs.Prelude.{ℤ, pos, Option, Some, None}
use Rattle.std.specs.Option.{option_map, option_and_then, unwrap_or}
use Rattle.std.specs.Ordering.{nat_cmp}
use Rattle.std.specs.FinMap.{get, insert, get-empty}
use Rattle.eevdf_weight.specs.Limits.{is_in_range}
use Rattle.eevdf_queue.specs.{declared.entry.Entry.Entry, Lag.kept_lag, Candidate.is_running, Candidate.candidate_of}
use Rattle.eevdf_queue.specs.declared.answers.TickAnswer.TheVariants as tick_answer
use Rattle.eevdf_queue.specs.declared.answers.YieldAnswer.TheVariants as yield_answer
use Rattle.eevdf_queue.specs.State.{State, Contents, empty_state}
use Rattle.eevdf_queue.specs.declared.sleeper.Sleeper.{Sleeper}
use Rattle.eevdf_queue.specs.Moves.{entry_in_range, fresh_entry, is_entry_in_range, put_asleep, sleeper_of, with_runnable}
use Rattle.eevdf_queue.specs.Tick.{aged, tick, tick_running, tick_entry, tick_to, charged, is_used_up}
use Rattle.eevdf_queue.specs.Pick.{after_pick, picked_by, pick_of}
use Rattle.eevdf_queue.specs.Yield.{yield_now, yield_running, yield_entry, yield_to, yielded}
use Rattle.eevdf_queue.specs.Wake.{wake, wake_sleeper, wake_to, waking_entry, waking_runtime}
use Rattle.eevdf_queue.specs.Renice.{reniced, renice, renice_entry, renice_to}
use Rattle.eevdf_queue.specs.SliceChange.{set_entry_slice, set_sleeper_slice, sleeper_with_slice}
use Rattle.eevdf_queue.specs.Attributes.{set, set_reniced, set_sleeper, sleeper_with, begin, begin_sleeper, fresh_sleeper, without_lag}
use Rattle.eevdf_queue.specs.{Rebase.rebase, Rebase.rebased, Rebase.can_rebase, Rebase.lowered_entry, Sums.virtual_time}
use Rattle.eevdf_queue.specs.declared.answers.ReniceAnswer.{ReniceAnswer}
use Rattle.eevdf_queue.specs.declared.answers.ReniceAnswer.TheVariants as renice_answer
use Rattle.eevdf_queue.proofs.LoweredMaps.{get-lowered}
use Rattle.eevdf_queue.specs.Placing.{placement, placed_entry, put}
use Rattle.eevdf_queue.specs.Leaving.{leaving, carried, carried_running, leave, without_entry}
use Rattle.eevdf_ops.specs.{Machine.joined, WholePull.offer, WholePull.with_task, WholeEnd.ending}
use Rattle.eevdf_ops.proofs.MapValues.{each-insert, each-remove}

-- something holds of each task, runnable and asleep, with its nice level and slice
pub record Each (P : ℕ → ℤ → ℕ → Type 0) (q : State) : Type 0 where
  pub runnable : (t : ℕ) (e : Entry) → get q.runnable t ≡ Some e → P t e.nice e.slice
  pub asleep : (t : ℕ) (s : Sleeper) → get q.asleep t ≡ Some s → P t s.nice s.slice

pub in_range_only : (x e : Entry) (b : Bool) → cond b (Some x) None ≡ Some e → x ≡ e
in_range_only x e true h = cc
in_range_only x e false h = cc

module _ (P : ℕ → ℤ → ℕ → Type 0) where
  either : {A : Type 0} (b : Bool) (x y : A × State) → Each P x.1 → Each P y.1 → Each P (cond b x y).1
  either true x y s t = s
  either false x y s t = t

  runnable-each : (q : State) (t : ℕ) (e : Entry) → Each P q → P t e.nice e.slice → Each P (record q { runnable = insert q.runnable t e })
  runnable-each q t e each p = record {
    runnable = each-insert (λ (k : ℕ) (f : Entry). P k f.nice f.slice) q.runnable t e each.runnable p;
    asleep = each.asleep;
  }

  pub asleep-each : (q : State) (p : Contents) → Each P q → P p.task p.nice p.slice → Each P (put_asleep q p)
  asleep-each q p each h = record {
    runnable = each.runnable;
    asleep = each-insert (λ (k : ℕ) (s : Sleeper). P k s.nice s.slice) q.asleep p.task (sleeper_of p) each.asleep h;
  }

  nobody : {X : Type 0} (A : Type 0) (o : Option X) (x : X) → o ≡ None → o ≡ Some x → A
  nobody A o x n e = cc

  pub empty-each : Each P empty_state
  empty-each = record {
    runnable = λ t e h. nobody (P t e.nice e.slice) (get empty_state.runnable t) e (get-empty nat_cmp t) h;
    asleep = λ t s h. nobody (P t s.nice s.slice) (get empty_state.asleep t) s (get-empty nat_cmp t) h;
  }

  charged-given : (t : ℕ) (e : Entry) (v : ℤ) (b : Bool) → P t e.nice e.slice
      → P t (cond b (fresh_entry v e.nice e.slice) (record e { v = v })).nice (cond b (fresh_entry v e.nice e.slice) (record e { v = v })).slice
  charged-given t e v true p = p
  charged-given t e v false p = p

  tick_to-each : (q : State) (t : ℕ) (resched : Bool) (e : Entry) → Each P q → P t e.nice e.slice → Each P (tick_to q t resched e).1
  tick_to-each q t resched e each p =
      either (is_entry_in_range e) (tick_answer.Charged t resched, record q { runnable = insert q.runnable t e }) (tick_answer.Range, q) (runnable-each q t e each p) each

  tick_entry-each : (q : State) (t : ℕ) (o : Option Entry) (ns : ℕ) → get q.runnable t ≡ o → Each P q → Each P (tick_entry q t o ns).1
  tick_entry-each q t None ns is each = each
  tick_entry-each q t (Some e) ns is each =
      tick_to-each q t (is_used_up e ns) (charged e ns) each (charged-given t e (aged e ns) (is_used_up e ns) (each.runnable t e is))

  tick_running-each : (q : State) (running : Option ℕ) (ns : ℕ) → Each P q → Each P (tick_running q running ns).1
  tick_running-each q None ns each = each
  tick_running-each q (Some t) ns each = tick_entry-each q t (get q.runnable t) ns refl each

  pub tick-each : (q : State) (ns : ℕ) → Each P q → Each P (tick q ns).1
  tick-each q ns each = tick_running-each q q.running ns each

  picked-each : (q : State) (o : Option ℕ) → Each P q → Each P (picked_by q o)
  picked-each q None each = each
  picked-each q (Some t) each = record { runnable = each.runnable; asleep = each.asleep }

  pub pick-each : (q : State) → Each P q → Each P (after_pick q)
  pick-each q each = picked-each q (pick_of q.runnable) each

  yield_to-each : (q : State) (t : ℕ) (e : Entry) → Each P q → P t e.nice e.slice → Each P (yield_to q t e).1
  yield_to-each q t e each p =
      either (is_in_range e.d) (yield_answer.Yielded, record q { runnable = insert q.runnable t e }) (yield_answer.Range, q) (runnable-each q t e each p) each

  yield_entry-each : (q : State) (t : ℕ) (o : Option Entry) → get q.runnable t ≡ o → Each P q → Each P (yield_entry q t o).1
  yield_entry-each q t None is each = each
  yield_entry-each q t (Some e) is each = yield_to-each q t (yielded e) each (each.runnable t e is)

  yield_running-each : (q : State) (running : Option ℕ) → Each P q → Each P (yield_running q running).1
  yield_running-each q None each = each
  yield_running-each q (Some t) each = yield_entry-each q t (get q.runnable t) refl each

  pub yield-each : (q : State) → Each P q → Each P (yield_now q).1
  yield-each q each = yield_running-each q q.running each

  -- a task that joins keeps both
  placed-given : (t : ℕ) (v : ℤ) (s : Sleeper) (e : Entry) → P t s.nice s.slice → entry_in_range (fresh_entry v s.nice s.slice) ≡ Some e → P t e.nice e.slice
  placed-given t v s e p h =
      let fresh : Entry = fresh_entry v s.nice s.slice in
      subst (λ (f : Entry). P t f.nice f.slice) (in_range_only fresh e (is_entry_in_range fresh) h) p

  wake_to-each : (q : State) (t : ℕ) (o : Option Entry) → Each P q → ((e : Entry) → o ≡ Some e → P t e.nice e.slice) → Each P (wake_to q t (with_runnable q t o)).1
  wake_to-each q t None each p = each
  wake_to-each q t (Some e) each p = record {
    runnable = each-insert (λ (k : ℕ) (f : Entry). P k f.nice f.slice) q.runnable t e each.runnable (p e refl);
    asleep = each-remove (λ (k : ℕ) (s : Sleeper). P k s.nice s.slice) q.asleep t each.asleep;
  }

  wake_sleeper-each : (q : State) (t : ℕ) (o : Option Sleeper) → get q.asleep t ≡ o → Each P q → Each P (wake_sleeper q t o).1
  wake_sleeper-each q t None is each = each
  wake_sleeper-each q t (Some s) is each =
      wake_to-each q t (waking_entry q s (get q.places t)) each (λ e h. placed-given t (waking_runtime q s (get q.places t)) s e (each.asleep t s is) h)

  pub wake-each : (q : State) (t : ℕ) → Each P q → Each P (wake q t).1
  wake-each q t each = wake_sleeper-each q t (get q.asleep t) refl each

  without-each : (q : State) (t : ℕ) (o : Option Entry) → Each P q → Each P (without_entry q t o)
  without-each q t None each = each
  without-each q t (Some e) each = record {
    runnable = each-remove (λ (k : ℕ) (f : Entry). P k f.nice f.slice) q.runnable t each.runnable;
    asleep = each.asleep;
  }

  pub leave-each : (q : State) (t : ℕ) → Each P q → Each P (leave q t)
  leave-each q t each = without-each q t (get q.runnable t) each

  with-each : (q r : State) (t : ℕ) (o : Option Entry) → Each P q → ((e : Entry) → o ≡ Some e → P t e.nice e.slice) → with_runnable q t o ≡ Some r → Each P r
  with-each q r t None each p h = cc
  with-each q r t (Some e) each p h =
      let is : record q { runnable = insert q.runnable t e } ≡ r = cc in subst (λ (z : State). Each P z) is (runnable-each q t e each (p e refl))

  put-each : (q r : State) (t : ℕ) (s : Sleeper) → Each P q → P t s.nice s.slice → put q t s ≡ Some r → Each P r
  put-each q r t s each p h = with-each q r t (placed_entry q s) each (λ e f. placed-given t (placement q s) s e p f) h

  renice_to-each : (q : State) (o : Option State) → Each P q → ((r : State) → o ≡ Some r → Each P r) → Each P (renice_to q o).1
  renice_to-each q None each after = each
  renice_to-each q (Some r) each after = record { runnable = (after r refl).runnable; asleep = (after r refl).asleep }

  renice_entry-each : (q : State) (t : ℕ) (nice : ℤ) (o : Option Entry) → ((older : ℤ) (slice : ℕ) → P t older slice → P t nice slice) → get q.runnable t ≡ o → Each P q
      → Each P (renice_entry q t nice o).1
  renice_entry-each q t nice None may is each = each
  renice_entry-each q t nice (Some e) may is each =
      renice_to-each q (put (leave q t) t (reniced q e nice)) each
      (λ r h. put-each (leave q t) r t (reniced q e nice) (leave-each q t each) (may e.nice e.slice (each.runnable t e is)) h)

  -- the task that gets another nice level may have it
  pub renice-each : (q : State) (t : ℕ) (nice : ℤ) → ((older : ℤ) (slice : ℕ) → P t older slice → P t nice slice) → Each P q → Each P (renice q t nice).1
  renice-each q t nice may each = renice_entry-each q t nice (get q.runnable t) may refl each

  kept-each : (q : State) (t : ℕ) (s : Sleeper) → Each P q → P t s.nice s.slice → Each P (record q { asleep = insert q.asleep t s })
  kept-each q t s each h = record {
    runnable = each.runnable;
    asleep = each-insert (λ (k : ℕ) (r : Sleeper). P k r.nice r.slice) q.asleep t s each.asleep h;
  }

  -- a task that may have any nice level and slice
  module _ (t : ℕ) (may : (older nice : ℤ) (slice newer : ℕ) → P t older slice → P t nice newer) where
    sleeper_slice-each : (q : State) (slice : ℕ) (o : Option Sleeper) → get q.asleep t ≡ o → Each P q → Each P (set_sleeper_slice q t slice o)
    sleeper_slice-each q slice None is each = each
    sleeper_slice-each q slice (Some s) is each = kept-each q t (sleeper_with_slice s slice) each (may s.nice s.nice s.slice slice (each.asleep t s is))

    entry_slice-each : (q : State) (slice : ℕ) (o : Option Entry) → get q.runnable t ≡ o → Each P q → Each P (set_entry_slice q t slice o)
    entry_slice-each q slice None is each = sleeper_slice-each q slice (get q.asleep t) refl each
    entry_slice-each q slice (Some e) is each = runnable-each q t (record e { slice = slice }) each (may e.nice e.nice e.slice slice (each.runnable t e is))

    set_sleeper-each : (q : State) (nice : ℤ) (slice : ℕ) (o : Option Sleeper) → get q.asleep t ≡ o → Each P q → Each P (set_sleeper q t nice slice o).1
    set_sleeper-each q nice slice None is each = each
    set_sleeper-each q nice slice (Some s) is each = kept-each q t (sleeper_with s nice slice) each (may s.nice nice s.slice slice (each.asleep t s is))

    set_reniced-each : (q : State) (nice : ℤ) (slice : ℕ) (a : ReniceAnswer) (r : State) → Each P q → Each P r → Each P (set_reniced q t nice slice a r).1
    set_reniced-each q nice slice renice_answer.Reniced r each after = entry_slice-each r slice (get r.runnable t) refl after
    set_reniced-each q nice slice renice_answer.NotHere r each after = set_sleeper-each q nice slice (get q.asleep t) refl each
    set_reniced-each q nice slice renice_answer.Range r each after = each

    pub set-each : (q : State) (nice : ℤ) (slice : ℕ) → Each P q → Each P (set q t nice slice).1
    set-each q nice slice each =
        set_reniced-each q nice slice (renice q t nice).0 (renice q t nice).1 each (renice-each q t nice (λ older kept p. may older nice kept kept p) each)

    begin_sleeper-each : (q : State) (nice : ℤ) (slice : ℕ) (o : Option Sleeper) → get q.asleep t ≡ o → Each P q → Each P (begin_sleeper q t nice slice o)
    begin_sleeper-each q nice slice None is each = each
    begin_sleeper-each q nice slice (Some s) is each =
        let kept : Each P (record q { asleep = insert q.asleep t (fresh_sleeper nice slice) }) =
        kept-each q t (fresh_sleeper nice slice) each (may s.nice nice s.slice slice (each.asleep t s is)) in
        record { runnable = kept.runnable; asleep = kept.asleep }

    pub begin-each : (q : State) (nice : ℤ) (slice : ℕ) → Each P q → Each P (begin q t nice slice)
    begin-each q nice slice each = begin_sleeper-each q nice slice (get q.asleep t) refl each

  lowered_by : (by : ℤ) (t : ℕ) (o : Option Entry) (e : Entry) → ((f : Entry) → o ≡ Some f → P t f.nice f.slice) → option_map (lowered_entry by) o ≡ Some e → P t e.nice e.slice
  lowered_by by t None e each h = cc
  lowered_by by t (Some f) e each h = let same : lowered_entry by f ≡ e = cc in subst (λ (g : Entry). P t g.nice g.slice) same (each f refl)

  rebased-each : (q : State) → Each P q → Each P (rebased q)
  rebased-each q each = record {
    runnable = λ t e h. lowered_by (virtual_time q) t (get q.runnable t) e (each.runnable t) (sym (get-lowered (virtual_time q) q.runnable t) ∙ h);
    asleep = each.asleep;
  }

  pub rebase-each : (q : State) → Each P q → Each P (rebase q).1
  rebase-each q each = either (can_rebase q) (virtual_time q, rebased q) (pos 0, q) (rebased-each q each) each

  carried_by : (q : State) (t : ℕ) (o : Option Entry) (p : Contents) → get q.runnable t ≡ o → Each P q → option_map (λ (e : Entry). leaving t (kept_lag q e) e) o ≡ Some p
      → P p.task p.nice p.slice
  carried_by q t None p is each h = cc
  carried_by q t (Some e) p is each h =
      let same : leaving t (kept_lag q e) e ≡ p = cc in subst (λ (r : Contents). P r.task r.nice r.slice) same (each.runnable t e is)

  carried-given : (q : State) (t : ℕ) (p : Contents) → Each P q → carried q t ≡ Some p → P p.task p.nice p.slice
  carried-given q t p each h = carried_by q t (get q.runnable t) p refl each h

  running_by : (q : State) (t : ℕ) (b : Bool) (p : Contents) → Each P q → cond b (carried q t) None ≡ Some p → P p.task p.nice p.slice
  running_by q t true p each h = carried-given q t p each h
  running_by q t false p each h = cc

  pub running-given : (q : State) (t : ℕ) (p : Contents) → Each P q → carried_running q t ≡ Some p → P p.task p.nice p.slice
  running-given q t p each h = running_by q t (is_running q.running t) p each h

  ending_by : (q : State) (t : ℕ) (o : Option Contents) (p : Contents) → ((r : Contents) → o ≡ Some r → P r.task r.nice r.slice) → option_map without_lag o ≡ Some p → P p.task p.nice p.slice
  ending_by q t None p each h = cc
  ending_by q t (Some r) p each h = let same : without_lag r ≡ p = cc in subst (λ (c : Contents). P c.task c.nice c.slice) same (each r refl)

  pub ending-given : (q : State) (t : ℕ) (p : Contents) → Each P q → ending q t ≡ Some p → P p.task p.nice p.slice
  ending-given q t p each h = ending_by q t (carried q t) p (λ r e. carried-given q t r each e) h

  offered_by : (q : State) (o : Option ℕ) (p : Contents) → Each P q → option_and_then (carried q) o ≡ Some p → P p.task p.nice p.slice
  offered_by q None p each h = cc
  offered_by q (Some t) p each h = carried-given q t p each h

  pub offer-given : (q : State) (p : Contents) → Each P q → offer q ≡ Some p → P p.task p.nice p.slice
  offer-given q p each h = offered_by q (candidate_of q.runnable q.running) p each h

  unwrapped-each : (q : State) (o : Option State) → Each P q → ((r : State) → o ≡ Some r → Each P r) → Each P (unwrap_or o q)
  unwrapped-each q None each after = each
  unwrapped-each q (Some r) each after = after r refl

  pub with_task-each : (q : State) (p : Contents) → Each P q → P p.task p.nice p.slice → Each P (with_task q p)
  with_task-each q p each h = unwrapped-each q (put q p.task (sleeper_of p)) each (λ r e. put-each q r p.task (sleeper_of p) each h e)

  pub joined-each : (asleep : Bool) (p : Contents) (q : State) → Each P q → P p.task p.nice p.slice → Each P (joined asleep p q)
  joined-each true p q each h = asleep-each q p each h
  joined-each false p q each h = runnable-each q p.task (fresh_entry p.start p.nice p.slice) each h
