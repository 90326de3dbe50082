-- What is done on a queue while no task comes or goes: the same ones are runnable.
use Rattle.std.proofs.Common.{◌≡◌, ℕ, ◌+◌, Bool, true, false, cond, refl, sym, ap, subst, ◌∙◌, arith}
use Rattle.std.specs.Prelude.{ℤ, pos, is_some, Option, Some, None}
use Rattle.std.specs.{Cmp.nat_cmp_total}
use Rattle.std.specs.FinMap.{insert, remove, get, contains_key, len, len-insert}
use Rattle.eevdf_queue.specs.{declared.entry.Entry.Entry, State.State, declared.sleeper.Sleeper.Sleeper, Sums.Tasks, Sums.virtual_time}
use Rattle.eevdf_queue.specs.Tick.{tick, tick_entry, tick_running, charged, is_used_up}
use Rattle.eevdf_queue.specs.Yield.{yield_now, yield_entry, yield_running, yielded}
use Rattle.eevdf_queue.specs.{Pick.pick_of, Pick.picked_by, Pick.after_pick, Moves.is_entry_in_range, Moves.with_runnable}
use Rattle.eevdf_weight.specs.Limits.{is_in_range}
use Rattle.eevdf_queue.specs.{Placing.placed_entry, Leaving.leave, Leaving.without_entry}
use Rattle.eevdf_queue.specs.Renice.{renice, renice_to, renice_entry, reniced}
use Rattle.eevdf_queue.specs.SliceChange.{set_slice, set_entry_slice, set_sleeper_slice}
use Rattle.eevdf_queue.specs.Attributes as attributes
use Rattle.eevdf_queue.specs.Rebase.{can_rebase, rebased, rebase}
use Rattle.eevdf_queue.specs.declared.answers.TickAnswer.TheVariants.{Charged, Range}
use Rattle.eevdf_queue.specs.declared.answers.YieldAnswer.TheVariants as yield_answer
use Rattle.eevdf_queue.specs.declared.answers.ReniceAnswer.{ReniceAnswer}
use Rattle.eevdf_queue.specs.declared.answers.ReniceAnswer.TheVariants as renice_answer
use Rattle.eevdf_queue.proofs.{LoweredMaps.len-lowered, LoweredMaps.contains-lowered, Sound.gone, Closing.one_fewer}
use Rattle.eevdf_ops.proofs.{MapCounts.contains-insert, MapCounts.contains-change, Loads.restored}

-- the same numbers are runnable
pub record AreSame (m n : Tasks) : Type 0 where
  pub many : len n ≡ len m
  pub each : (u : ℕ) → contains_key n u ≡ contains_key m u

pub itself : (m : Tasks) → AreSame m m
itself m = record { many = refl; each = λ u. refl }

both : (m n o : Tasks) → AreSame m n → AreSame n o → AreSame m o
both m n o a b = record { many = b.many ∙ a.many; each = λ u. b.each u ∙ a.each u }

either : {X : Type 0} (m : Tasks) (b : Bool) (x y : X × State) → AreSame m x.1.runnable → AreSame m y.1.runnable → AreSame m (cond b x y).1.runnable
either m true x y h k = h
either m false x y h k = k

changed : (m : Tasks) (t : ℕ) (e f : Entry) → get m t ≡ Some f → AreSame m (insert m t e)
changed m t e f here = record {
  many = len-insert nat_cmp_total m t e ∙ ap (λ (o : Option Entry). cond (is_some o) (len m) (len m + 1)) here;
  each = λ u. contains-change m t u e (ap is_some here);
}

-- a task that leaves and joins again
again : (m : Tasks) (t : ℕ) (e f : Entry) → get m t ≡ Some f → AreSame m (insert (remove m t) t e)
again m t e f here = record {
  many =
      len-insert nat_cmp_total (remove m t) t e
      ∙ ap (λ (o : Option Entry). cond (is_some o) (len (remove m t)) (len (remove m t) + 1)) (gone m t)
      ∙ (let fewer = one_fewer m t (ap is_some here) in let is : len (remove m t) + 1 ≡ len m = omega (arith, fewer) in is);
  each = λ u.
      contains-insert (remove m t) t u e ∙ sym (contains-insert (remove m t) t u f) ∙ ap (λ (n : Tasks). contains_key n u) (restored m t f here);
}

tick_entry-same : (q : State) (t : ℕ) (o : Option Entry) (ns : ℕ) → get q.runnable t ≡ o → AreSame q.runnable (tick_entry q t o ns).1.runnable
tick_entry-same q t None ns here = itself q.runnable
tick_entry-same q t (Some e) ns here =
    either q.runnable (is_entry_in_range (charged e ns)) (Charged t (is_used_up e ns), record q { runnable = insert q.runnable t (charged e ns) }) (Range, q)
    (changed q.runnable t (charged e ns) e here) (itself q.runnable)

tick_running-same : (q : State) (o : Option ℕ) (ns : ℕ) → AreSame q.runnable (tick_running q o ns).1.runnable
tick_running-same q None ns = itself q.runnable
tick_running-same q (Some t) ns = tick_entry-same q t (get q.runnable t) ns refl

pub tick-same : (q : State) (ns : ℕ) → AreSame q.runnable (tick q ns).1.runnable
tick-same q ns = tick_running-same q q.running ns

yield_entry-same : (q : State) (t : ℕ) (o : Option Entry) → get q.runnable t ≡ o → AreSame q.runnable (yield_entry q t o).1.runnable
yield_entry-same q t None here = itself q.runnable
yield_entry-same q t (Some e) here =
    either q.runnable (is_in_range (yielded e).d) (yield_answer.Yielded, record q { runnable = insert q.runnable t (yielded e) }) (yield_answer.Range, q)
    (changed q.runnable t (yielded e) e here) (itself q.runnable)

yield_running-same : (q : State) (o : Option ℕ) → AreSame q.runnable (yield_running q o).1.runnable
yield_running-same q None = itself q.runnable
yield_running-same q (Some t) = yield_entry-same q t (get q.runnable t) refl

pub yield-same : (q : State) → AreSame q.runnable (yield_now q).1.runnable
yield-same q = yield_running-same q q.running

picked-same : (q : State) (o : Option ℕ) → AreSame q.runnable (picked_by q o).runnable
picked-same q None = itself q.runnable
picked-same q (Some t) = itself q.runnable

pub pick-same : (q : State) → AreSame q.runnable (after_pick q).runnable
pick-same q = picked-same q (pick_of q.runnable)

renice_to-same : (q r : State) (t : ℕ) (o : Option Entry) (e : Entry) → get q.runnable t ≡ Some e → r.runnable ≡ remove q.runnable t
    → AreSame q.runnable (renice_to q (with_runnable r t o)).1.runnable
renice_to-same q r t None e here is = itself q.runnable
renice_to-same q r t (Some x) e here is = subst (λ (m : Tasks). AreSame q.runnable (insert m t x)) (sym is) (again q.runnable t x e here)

renice_entry-same : (q : State) (t : ℕ) (nice : ℤ) (o : Option Entry) → get q.runnable t ≡ o → AreSame q.runnable (renice_entry q t nice o).1.runnable
renice_entry-same q t nice None here = itself q.runnable
renice_entry-same q t nice (Some e) here =
    renice_to-same q (leave q t) t (placed_entry (leave q t) (reniced q e nice)) e here (ap (λ (o : Option Entry). (without_entry q t o).runnable) here)

pub renice-same : (q : State) (t : ℕ) (nice : ℤ) → AreSame q.runnable (renice q t nice).1.runnable
renice-same q t nice = renice_entry-same q t nice (get q.runnable t) refl

sleeper_slice-same : (q : State) (t slice : ℕ) (o : Option Sleeper) → AreSame q.runnable (set_sleeper_slice q t slice o).runnable
sleeper_slice-same q t slice None = itself q.runnable
sleeper_slice-same q t slice (Some s) = itself q.runnable

entry_slice-same : (q : State) (t slice : ℕ) (o : Option Entry) → get q.runnable t ≡ o → AreSame q.runnable (set_entry_slice q t slice o).runnable
entry_slice-same q t slice None here = sleeper_slice-same q t slice (get q.asleep t)
entry_slice-same q t slice (Some e) here = changed q.runnable t (record e { slice = slice }) e here

set_sleeper-same : (q : State) (t : ℕ) (nice : ℤ) (slice : ℕ) (o : Option Sleeper) → AreSame q.runnable (attributes.set_sleeper q t nice slice o).1.runnable
set_sleeper-same q t nice slice None = itself q.runnable
set_sleeper-same q t nice slice (Some s) = itself q.runnable

set_reniced-same : (q r : State) (t : ℕ) (nice : ℤ) (slice : ℕ) (a : ReniceAnswer) → AreSame q.runnable r.runnable → AreSame q.runnable (attributes.set_reniced q t nice slice a r).1.runnable
set_reniced-same q r t nice slice renice_answer.Reniced h = both q.runnable r.runnable (set_slice r t slice).runnable h (entry_slice-same r t slice (get r.runnable t) refl)
set_reniced-same q r t nice slice renice_answer.NotHere h = set_sleeper-same q t nice slice (get q.asleep t)
set_reniced-same q r t nice slice renice_answer.Range h = itself q.runnable

pub set-same : (q : State) (t : ℕ) (nice : ℤ) (slice : ℕ) → AreSame q.runnable (attributes.set q t nice slice).1.runnable
set-same q t nice slice = set_reniced-same q (renice q t nice).1 t nice slice (renice q t nice).0 (renice-same q t nice)

begin_sleeper-same : (q : State) (t : ℕ) (nice : ℤ) (slice : ℕ) (o : Option Sleeper) → AreSame q.runnable (attributes.begin_sleeper q t nice slice o).runnable
begin_sleeper-same q t nice slice None = itself q.runnable
begin_sleeper-same q t nice slice (Some s) = itself q.runnable

pub begin-same : (q : State) (t : ℕ) (nice : ℤ) (slice : ℕ) → AreSame q.runnable (attributes.begin q t nice slice).runnable
begin-same q t nice slice = begin_sleeper-same q t nice slice (get q.asleep t)

pub rebase-same : (q : State) → AreSame q.runnable (rebase q).1.runnable
rebase-same q =
    either q.runnable (can_rebase q) (virtual_time q, rebased q) (pos 0, q)
    (record { many = len-lowered (virtual_time q) q.runnable; each = λ u. contains-lowered (virtual_time q) q.runnable u }) (itself q.runnable)
