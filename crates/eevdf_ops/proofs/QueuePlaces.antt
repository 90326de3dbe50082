-- How a step on one queue changes where tasks stand.
use Rattle.std.proofs.Common.{◌≡◌, ℕ, ◌+◌, ◌≤◌, Bool, true, false, cond, refl, sym, ap, subst, ◌∙◌, arith}
use Rattle.std.specs.Prelude.{◌==◌, ℤ, pos, is_some, IfSome, Option, Some, None}
use Rattle.std.specs.{Int.int_max}
use Rattle.std.specs.FinMap.{get, contains_key, insert, remove}
use Rattle.std.proofs.lemmas.Bool.{false≢true}
use Rattle.eevdf_weight.specs.Limits.{is_in_range}
use Rattle.eevdf_queue.specs.{declared.entry.Entry.Entry, Placing.placed_entry, Leaving.without_entry}
use Rattle.eevdf_queue.specs.declared.answers.TickAnswer.TheVariants as tick_answer
use Rattle.eevdf_queue.specs.declared.answers.YieldAnswer.TheVariants as yield_answer
use Rattle.eevdf_queue.specs.{declared.sleeper.Sleeper.Sleeper, State.State, State.Contents}
use Rattle.eevdf_queue.specs.Moves.{is_entry_in_range, put_asleep, sleeper_of, with_runnable}
use Rattle.eevdf_queue.specs.{Doze.put_dozing}
use Rattle.eevdf_queue.specs.Tick.{tick, tick_running, tick_entry, tick_to, charged, is_used_up}
use Rattle.eevdf_queue.specs.Pick.{after_pick, picked_by, pick_of}
use Rattle.eevdf_queue.specs.Yield.{yield_now, yield_running, yield_entry, yield_to, yielded}
use Rattle.eevdf_queue.specs.Wake.{wake, wake_sleeper, wake_to, waking_entry}
use Rattle.eevdf_queue.specs.Renice.{reniced, renice, renice_entry, renice_to}
use Rattle.eevdf_queue.specs.SliceChange.{set_slice, set_entry_slice, set_sleeper_slice, sleeper_with_slice}
use Rattle.eevdf_queue.specs.Attributes.{set, set_reniced, set_sleeper, sleeper_with, begin, begin_sleeper, fresh_sleeper}
use Rattle.eevdf_queue.specs.{Rebase.rebase, Rebase.rebased, Rebase.can_rebase, Sums.virtual_time}
use Rattle.eevdf_queue.specs.declared.answers.ReniceAnswer.{ReniceAnswer}
use Rattle.eevdf_queue.specs.declared.answers.ReniceAnswer.TheVariants as renice_answer
use Rattle.eevdf_queue.proofs.LoweredMaps.{contains-lowered}
use Rattle.eevdf_ops.specs.{declared.acts.LocalAct.LocalAct, declared.deeds.Op.Op, Acts.local_of, LocalActs.local_done}
use Rattle.eevdf_ops.specs.declared.deeds.Op.TheVariants as op
use Rattle.eevdf_ops.specs.Places.{count, places_in}
use Rattle.eevdf_queue.proofs.Sound.{gone}
use Rattle.eevdf_ops.proofs.MapCounts.{count-insert, count-remove, contains-change, contains-removed}

-- every task stands in as many places as before, and nobody new sleeps
pub record IsSame (q q' : State) : Type 0 where
  pub places : (u : ℕ) → places_in q' u ≡ places_in q u
  pub asleep : (u : ℕ) → contains_key q'.asleep u ≡ true → contains_key q.asleep u ≡ true

-- a task stands in a place less, and nobody new sleeps
pub record IsWithout (q : State) (t : ℕ) (q' : State) : Type 0 where
  pub places : (u : ℕ) → places_in q' u + count (u == t) ≡ places_in q u
  pub asleep : (u : ℕ) → contains_key q'.asleep u ≡ true → contains_key q.asleep u ≡ true

-- a task stands in a place more
pub record IsWith (q : State) (t : ℕ) (q' : State) : Type 0 where
  pub places : (u : ℕ) → places_in q' u ≡ places_in q u + count (u == t)

itself : (q : State) → IsSame q q
itself q = record { places = λ u. refl; asleep = λ u e. e }

changed : (q : State) (t : ℕ) (e : Entry) → contains_key q.runnable t ≡ true → IsSame q (record q { runnable = insert q.runnable t e })
changed q t e present = record {
  places = λ u. ap (λ (b : Bool). count b + count (contains_key q.asleep u)) (contains-change q.runnable t u e present);
  asleep = λ u a. a;
}

either : {A : Type 0} (q : State) (b : Bool) (x y : A × State) → IsSame q x.1 → IsSame q y.1 → IsSame q (cond b x y).1
either q true x y s t = s
either q false x y s t = t

tick_to-same : (q : State) (t : ℕ) (resched : Bool) (e : Entry) → contains_key q.runnable t ≡ true → IsSame q (tick_to q t resched e).1
tick_to-same q t resched e present = either q (is_entry_in_range e) (tick_answer.Charged t resched, record q { runnable = insert q.runnable t e }) (tick_answer.Range, q) (changed q t e present) (itself q)

tick_entry-same : (q : State) (t : ℕ) (o : Option Entry) (ns : ℕ) → get q.runnable t ≡ o → IsSame q (tick_entry q t o ns).1
tick_entry-same q t None ns e = itself q
tick_entry-same q t (Some entry) ns e = tick_to-same q t (is_used_up entry ns) (charged entry ns) (ap is_some e)

tick_running-same : (q : State) (running : Option ℕ) (ns : ℕ) → IsSame q (tick_running q running ns).1
tick_running-same q None ns = itself q
tick_running-same q (Some t) ns = tick_entry-same q t (get q.runnable t) ns refl

pub tick-same : (q : State) (ns : ℕ) → IsSame q (tick q ns).1
tick-same q ns = tick_running-same q q.running ns

picked-same : (q : State) (o : Option ℕ) → IsSame q (picked_by q o)
picked-same q None = itself q
picked-same q (Some t) = record { places = λ u. refl; asleep = λ u e. e }

pub pick-same : (q : State) → IsSame q (after_pick q)
pick-same q = picked-same q (pick_of q.runnable)

yield_to-same : (q : State) (t : ℕ) (e : Entry) → contains_key q.runnable t ≡ true → IsSame q (yield_to q t e).1
yield_to-same q t e present = either q (is_in_range e.d) (yield_answer.Yielded, record q { runnable = insert q.runnable t e }) (yield_answer.Range, q) (changed q t e present) (itself q)

yield_entry-same : (q : State) (t : ℕ) (o : Option Entry) → get q.runnable t ≡ o → IsSame q (yield_entry q t o).1
yield_entry-same q t None e = itself q
yield_entry-same q t (Some entry) e = yield_to-same q t (yielded entry) (ap is_some e)

yield_running-same : (q : State) (running : Option ℕ) → IsSame q (yield_running q running).1
yield_running-same q None = itself q
yield_running-same q (Some t) = yield_entry-same q t (get q.runnable t) refl

pub yield-same : (q : State) → IsSame q (yield_now q).1
yield-same q = yield_running-same q q.running

alone : (b c : Bool) → count b + count c ≤ 1 → c ≡ true → b ≡ false
alone true true h e = absurd (omega arith)
alone true false h e = absurd (false≢true e)
alone false c h e = refl

wake_to-same : (q : State) (t : ℕ) (o : Option Entry) → contains_key q.runnable t ≡ false → contains_key q.asleep t ≡ true → IsSame q (wake_to q t (with_runnable q t o)).1
wake_to-same q t None absent present = itself q
wake_to-same q t (Some e) absent present = record {
  places = λ u. omega (arith, count-insert q.runnable t u e absent, count-remove q.asleep t u present);
  asleep = λ u a. contains-removed q.asleep t u a;
}

wake_sleeper-same : (q : State) (t : ℕ) (o : Option Sleeper) → places_in q t ≤ 1 → get q.asleep t ≡ o → IsSame q (wake_sleeper q t o).1
wake_sleeper-same q t None h e = itself q
wake_sleeper-same q t (Some s) h e =
    let present : contains_key q.asleep t ≡ true = ap is_some e in
    wake_to-same q t (waking_entry q s (get q.places t)) (alone (contains_key q.runnable t) (contains_key q.asleep t) h present) present

-- a wake moves a task that stands in one place from one to the other
pub wake-same : (q : State) (t : ℕ) → places_in q t ≤ 1 → IsSame q (wake q t).1
wake-same q t h = wake_sleeper-same q t (get q.asleep t) h refl

renice_to-same : (q : State) (t : ℕ) (e : Entry) (o : Option Entry) → get q.runnable t ≡ Some e → IsSame q (renice_to q (with_runnable (without_entry q t (Some e)) t o)).1
renice_to-same q t e None is = itself q
renice_to-same q t e (Some f) is = record {
  places = λ u. omega (arith, count-insert (remove q.runnable t) t u f (ap is_some (gone q.runnable t)), count-remove q.runnable t u (ap is_some is));
  asleep = λ u a. a;
}

renice_entry-same : (q : State) (t : ℕ) (nice : ℤ) (o : Option Entry) → get q.runnable t ≡ o → IsSame q (renice_entry q t nice o).1
renice_entry-same q t nice None is = itself q
renice_entry-same q t nice (Some e) is =
    subst (λ (o : Option Entry). IsSame q (renice_to q (with_runnable (without_entry q t o) t (placed_entry (without_entry q t o) (reniced q e nice)))).1) (sym is)
    (renice_to-same q t e (placed_entry (without_entry q t (Some e)) (reniced q e nice)) is)

-- a task that leaves and joins again
pub renice-same : (q : State) (t : ℕ) (nice : ℤ) → IsSame q (renice q t nice).1
renice-same q t nice = renice_entry-same q t nice (get q.runnable t) refl

-- a sleeping task of which other things are kept
kept-same : (q : State) (t : ℕ) (s : Sleeper) → contains_key q.asleep t ≡ true → IsSame q (record q { asleep = insert q.asleep t s })
kept-same q t s present = record {
  places = λ u. ap (λ (b : Bool). count (contains_key q.runnable u) + count b) (contains-change q.asleep t u s present);
  asleep = λ u a. sym (contains-change q.asleep t u s present) ∙ a;
}

after-same : (q r s : State) → IsSame q r → IsSame r s → IsSame q s
after-same q r s h k = record { places = λ u. k.places u ∙ h.places u; asleep = λ u a. h.asleep u (k.asleep u a) }

sleeper_slice-same : (q : State) (t slice : ℕ) (o : Option Sleeper) → get q.asleep t ≡ o → IsSame q (set_sleeper_slice q t slice o)
sleeper_slice-same q t slice None e = itself q
sleeper_slice-same q t slice (Some s) e = kept-same q t (sleeper_with_slice s slice) (ap is_some e)

entry_slice-same : (q : State) (t slice : ℕ) (o : Option Entry) → get q.runnable t ≡ o → IsSame q (set_entry_slice q t slice o)
entry_slice-same q t slice None e = sleeper_slice-same q t slice (get q.asleep t) refl
entry_slice-same q t slice (Some f) e = changed q t (record f { slice = slice }) (ap is_some e)

slice-same : (q : State) (t slice : ℕ) → IsSame q (set_slice q t slice)
slice-same q t slice = entry_slice-same q t slice (get q.runnable t) refl

set_sleeper-same : (q : State) (t : ℕ) (nice : ℤ) (slice : ℕ) (o : Option Sleeper) → get q.asleep t ≡ o → IsSame q (set_sleeper q t nice slice o).1
set_sleeper-same q t nice slice None e = itself q
set_sleeper-same q t nice slice (Some s) e = kept-same q t (sleeper_with s nice slice) (ap is_some e)

set_reniced-same : (q : State) (t : ℕ) (nice : ℤ) (slice : ℕ) (a : ReniceAnswer) (r : State) → IsSame q r → IsSame q (set_reniced q t nice slice a r).1
set_reniced-same q t nice slice renice_answer.Reniced r h = after-same q r (set_slice r t slice) h (slice-same r t slice)
set_reniced-same q t nice slice renice_answer.NotHere r h = set_sleeper-same q t nice slice (get q.asleep t) refl
set_reniced-same q t nice slice renice_answer.Range r h = itself q

-- a task that gets another nice level and slice
pub set-same : (q : State) (t : ℕ) (nice : ℤ) (slice : ℕ) → IsSame q (set q t nice slice).1
set-same q t nice slice = set_reniced-same q t nice slice (renice q t nice).0 (renice q t nice).1 (renice-same q t nice)

begin_sleeper-same : (q : State) (t : ℕ) (nice : ℤ) (slice : ℕ) (o : Option Sleeper) → get q.asleep t ≡ o → IsSame q (begin_sleeper q t nice slice o)
begin_sleeper-same q t nice slice None e = itself q
begin_sleeper-same q t nice slice (Some s) e =
    let kept : IsSame q (record q { asleep = insert q.asleep t (fresh_sleeper nice slice) }) = kept-same q t (fresh_sleeper nice slice) (ap is_some e) in
    record { places = kept.places; asleep = kept.asleep }

-- a sleeping task that begins anew
pub begin-same : (q : State) (t : ℕ) (nice : ℤ) (slice : ℕ) → IsSame q (begin q t nice slice)
begin-same q t nice slice = begin_sleeper-same q t nice slice (get q.asleep t) refl

rebased-same : (q : State) → IsSame q (rebased q)
rebased-same q = record {
  places = λ u. ap (λ (b : Bool). count b + count (contains_key q.asleep u)) (contains-lowered (virtual_time q) q.runnable u);
  asleep = λ u a. a;
}

-- virtual times that are all lowered
pub rebase-same : (q : State) → IsSame q (rebase q).1
rebase-same q = either q (can_rebase q) (virtual_time q, rebased q) (pos 0, q) (rebased-same q) (itself q)

-- an operation that touches its CPU's queue alone, whatever the homes are, leaves each task where it stands
pub own-same : (o : Op) (q : State) → IfSome (local_of o) (λ (a : LocalAct). IsSame q (local_done a q).1)
own-same (op.Tick ns) q = tick-same q ns
own-same op.Pick q = pick-same q
own-same op.Yield q = yield-same q
own-same (op.Renice task nice) q = renice-same q task nice
own-same (op.Begin task nice slice) q = begin-same q task nice slice
own-same (op.Set task nice slice) q = set-same q task nice slice
own-same op.Rebase q = rebase-same q
own-same other q = tt

-- a runnable task leaves
pub leave-without : (q : State) (t : ℕ) (e : Entry) → get q.runnable t ≡ Some e → IsWithout q t (without_entry q t (Some e))
leave-without q t e is = record {
  places = λ u. omega (arith, count-remove q.runnable t u (ap is_some is));
  asleep = λ u a. a;
}

nowhere_asleep : (b c : Bool) → count b + count c ≡ 0 → c ≡ false
nowhere_asleep b true h = absurd (omega arith)
nowhere_asleep b false h = refl

nowhere_runnable : (b c : Bool) → count b + count c ≡ 0 → b ≡ false
nowhere_runnable true c h = absurd (omega arith)
nowhere_runnable false c h = refl

-- a task that stands nowhere in the queue falls asleep there
pub asleep-with : (q : State) (p : Contents) → places_in q p.task ≡ 0 → IsWith q p.task (put_asleep q p)
asleep-with q p h = record {
  places = λ u. omega (arith, count-insert q.asleep p.task u (sleeper_of p) (nowhere_asleep (contains_key q.runnable p.task) (contains_key q.asleep p.task) h));
}

-- what a doze keeps of a task, as what a sleep would of one without a debt
abbrev pub owed : Contents → Contents
owed p = record p { lag = int_max (pos 0) p.lag }

-- or dozes off there
pub dozing-with : (q : State) (p : Contents) → places_in q p.task ≡ 0 → IsWith q p.task (put_dozing q p)
dozing-with q p h = record { places = (asleep-with q (owed p) h).places }

-- or becomes runnable there
pub runnable-with : (q q' : State) (t : ℕ) (o : Option Entry) → places_in q t ≡ 0 → with_runnable q t o ≡ Some q' → IsWith q t q'
runnable-with q q' t None h e = cc
runnable-with q q' t (Some entry) h e =
    let is : record q { runnable = insert q.runnable t entry } ≡ q' = cc in
    subst (λ (r : State). IsWith q t r) is (record {
      places = λ u. omega (arith, count-insert q.runnable t u entry (nowhere_runnable (contains_key q.runnable t) (contains_key q.asleep t) h));
    })
