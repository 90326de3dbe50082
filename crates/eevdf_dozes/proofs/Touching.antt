-- Calls that touch one task alone.
use Rattle.std.proofs.Common.{◌≡◌, ℕ, Bool, true, false, cond, Option, Some, None, refl, sym, ap, ◌∙◌, subst}
use Rattle.std.specs.Prelude.{ℤ, ◌+ℤ◌, ◌≤ℤ◌}
use Rattle.std.specs.{Ordering.nat_cmp, Ordering.eq_by_cmp, Cmp.nat_cmp_total}
use Rattle.std.specs.FinMap.{FinMap, get, contains_key, insert, remove, get-insert, get-remove}
use Rattle.eevdf_queue.specs.{declared.entry.Entry.Entry, declared.sleeper.Sleeper.Sleeper, State.State, State.Contents}
use Rattle.eevdf_queue.specs.declared.answers.ReniceAnswer.{ReniceAnswer}
use Rattle.eevdf_queue.specs.declared.answers.ReniceAnswer.TheVariants as reniced
use Rattle.eevdf_queue.specs.Leaving.{leave, leave_running, without_entry, without_sleeper, stopped, leaving, carried_running}
use Rattle.std.specs.Option.{option_map}
use Rattle.eevdf_queue.specs.Lag.{kept_lag}
use Rattle.eevdf_queue.specs.Moves.{put_asleep, with_runnable, fresh_entry, entry_in_range, is_entry_in_range, sleeper_of}
use Rattle.eevdf_queue.specs.{Candidate.is_running, Placing.put, Placing.placement, Renice.renice, Renice.renice_to, Renice.renice_entry, Renice.reniced as rejoining}
use Rattle.eevdf_queue.specs.SliceChange.{set_slice, set_entry_slice, set_sleeper_slice}
use Rattle.eevdf_queue.specs.Attributes.{set_sleeper, set_reniced, begin_sleeper, fresh_sleeper}
use Rattle.eevdf_queue.specs.{Doze.dozing, Doze.put_dozing, Doze.doze, Wake.waking_runtime, Wake.wake}
use Rattle.eevdf_queue.proofs.DueTasks.{fresh_due, due_with, due_without}
use Rattle.eevdf_fairness.proofs.Growing.{not_itself}
use Rattle.eevdf_dozes.specs.Stretches.{NoneIsPastDue}
use Rattle.eevdf_dozes.specs.{Calls.Touches, Calls.CallsTouchOne}
use Rattle.eevdf_dozes.proofs.Dozing.{dozing_of, dozing_in, doze_is, awake_entry, awake_in, wake_is}

-- ---- what is there of others
pub untouched : {X : Type 0} (m : FinMap nat_cmp X) (k t : ℕ) (x : X) → (t ≡ k → ⊥) → get (insert m k x) t ≡ get m t
untouched m k t x other =
    get-insert nat_cmp_total m k x t ∙ ap (λ (b : Bool). cond b (Some x) (get m t)) (not_itself t k (eq_by_cmp nat_cmp t k) other refl)

pub left_there : {X : Type 0} (m : FinMap nat_cmp X) (k t : ℕ) → (t ≡ k → ⊥) → get (remove m k) t ≡ get m t
left_there m k t other =
    get-remove nat_cmp_total m k t ∙ ap (λ (b : Bool). cond b None (get m t)) (not_itself t k (eq_by_cmp nat_cmp t k) other refl)

-- ---- one call after another
pub touches_nothing : (task : ℕ) (q : State) → Touches task q q
touches_nothing task q = record {
  runnable = λ t other. refl;
  asleep = λ t other. refl;
  places = λ t other. refl;
  shift = refl;
  runs = λ t other runs. runs;
  due = λ due. due;
}

pub touches_then : (task : ℕ) (p q r : State) → Touches task p q → Touches task q r → Touches task p r
touches_then task p q r a b = record {
  runnable = λ t other. b.runnable t other ∙ a.runnable t other;
  asleep = λ t other. b.asleep t other ∙ a.asleep t other;
  places = λ t other. b.places t other ∙ a.places t other;
  shift = b.shift ∙ a.shift;
  runs = λ t other runs. a.runs t other (b.runs t other runs);
  due = λ due. b.due (a.due due);
}

-- ---- a task leaves
still_running : (running : Option ℕ) (task t : ℕ) → stopped running task ≡ Some t → running ≡ Some t
still_running running task t =
    by (is_running running task)
  where
    by : (b : Bool) → cond b None running ≡ Some t → running ≡ Some t
    by true h = cc
    by false h = h

left_by : (q : State) (task : ℕ) (o : Option Entry) → Touches task q (without_entry q task o)
left_by q task None = touches_nothing task q
left_by q task (Some e) = record {
  runnable = λ t other. left_there q.runnable task t other;
  asleep = λ t other. refl;
  places = λ t other. refl;
  shift = refl;
  runs = λ t other runs. still_running q.running task t runs;
  due = due_without q.runnable task;
}

pub left : (q : State) (task : ℕ) → Touches task q (leave q task)
left q task = left_by q task (get q.runnable task)

left_running : (q : State) (task : ℕ) → Touches task q (leave_running q task)
left_running q task =
    by (is_running q.running task)
  where
    by : (b : Bool) → Touches task q (cond b (leave q task) q)
    by true = left q task
    by false = touches_nothing task q

-- ---- a task sleeps, and something else is kept of it
pub slept : (q : State) (task : ℕ) (s : Sleeper) → Touches task q (record q { asleep = insert q.asleep task s })
slept q task s = record {
  runnable = λ t other. refl;
  asleep = λ t other. untouched q.asleep task t s other;
  places = λ t other. refl;
  shift = refl;
  runs = λ t other runs. runs;
  due = λ due. due;
}

slept_no_more : (q : State) (task : ℕ) → Touches task q (record q { asleep = remove q.asleep task; places = remove q.places task })
slept_no_more q task = record {
  runnable = λ t other. refl;
  asleep = λ t other. left_there q.asleep task t other;
  places = λ t other. left_there q.places task t other;
  shift = refl;
  runs = λ t other runs. runs;
  due = λ due. due;
}

taken_out : (q : State) (task : ℕ) (o : Option Sleeper) → Touches task q (without_sleeper q task o)
taken_out q task None = touches_nothing task q
taken_out q task (Some s) = slept_no_more q task

begun : (q : State) (task : ℕ) (nice : ℤ) (slice : ℕ) (o : Option Sleeper) → Touches task q (begin_sleeper q task nice slice o)
begun q task nice slice None = touches_nothing task q
begun q task nice slice (Some s) = record {
  runnable = λ t other. refl;
  asleep = λ t other. untouched q.asleep task t (fresh_sleeper nice slice) other;
  places = λ t other. left_there q.places task t other;
  shift = refl;
  runs = λ t other runs. runs;
  due = λ due. due;
}

-- a task sleeps with the lag that it carries
carried_number : (q : State) (task : ℕ) (o : Option Entry) (b : Bool) (p : Contents)
    → cond b (option_map (λ (e : Entry). leaving task (kept_lag q e) e) o) None ≡ Some p → p.task ≡ task
carried_number q task None true p is = cc
carried_number q task (Some e) true p is =
    let same : leaving task (kept_lag q e) e ≡ p = cc in
    sym (ap (λ (c : Contents). c.task) same)
carried_number q task o false p is = cc

slept_by : (q : State) (task : ℕ) (p : Contents) → carried_running q task ≡ Some p → Touches task q (put_asleep (leave_running q task) p)
slept_by q task p is =
    let r : State = leave_running q task in
    subst (λ (u : ℕ). Touches task q (record r { asleep = insert r.asleep u (sleeper_of p) }))
    (sym (carried_number q task (get q.runnable task) (is_running q.running task) p is))
    (touches_then task q r (record r { asleep = insert r.asleep task (sleeper_of p) }) (left_running q task) (slept r task (sleeper_of p)))

-- ---- a task becomes runnable
pub entered : (q : State) (task : ℕ) (e : Entry) → e.v ≤ℤ e.d → Touches task q (record q { runnable = insert q.runnable task e })
entered q task e timely = record {
  runnable = λ t other. untouched q.runnable task t e other;
  asleep = λ t other. refl;
  places = λ t other. refl;
  shift = refl;
  runs = λ t other runs. runs;
  due = due_with q.runnable task e timely;
}

-- a task that has joined
abbrev put_at : State → ℕ → Sleeper → ℤ → Option State
put_at q task s v = with_runnable q task (entry_in_range (fresh_entry v s.nice s.slice))

pub put_is : (q r : State) (task : ℕ) (s : Sleeper) (v : ℤ) → put_at q task s v ≡ Some r
    → r ≡ record q { runnable = insert q.runnable task (fresh_entry v s.nice s.slice) }
put_is q r task s v =
    by (is_entry_in_range (fresh_entry v s.nice s.slice))
  where
    by : (b : Bool) → with_runnable q task (cond b (Some (fresh_entry v s.nice s.slice)) None) ≡ Some r
        → r ≡ record q { runnable = insert q.runnable task (fresh_entry v s.nice s.slice) }
    by true h = cc
    by false h = cc

pub put_touches : (q r : State) (task : ℕ) (s : Sleeper) (v : ℤ) → put_at q task s v ≡ Some r → Touches task q r
put_touches q r task s v h =
    subst (Touches task q) (sym (put_is q r task s v h)) (entered q task (fresh_entry v s.nice s.slice) (fresh_due v s.nice s.slice))

pub joined_touches : (q r : State) (task : ℕ) (s : Sleeper) → put q task s ≡ Some r → Touches task q r
joined_touches q r task s h = put_touches q r task s (placement q s) h

-- ---- a task gets another nice level, or another slice
ran_before : (q r : State) (task : ℕ) → Touches task q r → Touches task q (record r { running = q.running })
ran_before q r task h =
    record { runnable = h.runnable; asleep = h.asleep; places = h.places; shift = h.shift; runs = λ t other runs. runs; due = h.due }

reniced_to : (q : State) (task : ℕ) (o : Option State) → ((r : State) → o ≡ Some r → Touches task q r) → Touches task q (renice_to q o).1
reniced_to q task None h = touches_nothing task q
reniced_to q task (Some r) h = ran_before q r task (h r refl)

reniced_by : (q : State) (task : ℕ) (nice : ℤ) (o : Option Entry) → Touches task q (renice_entry q task nice o).1
reniced_by q task nice None = touches_nothing task q
reniced_by q task nice (Some e) =
    reniced_to q task (put (leave q task) task (rejoining q e nice))
    (λ r is. touches_then task q (leave q task) r (left q task) (joined_touches (leave q task) r task (rejoining q e nice) is))

renice_touches : (q : State) (task : ℕ) (nice : ℤ) → Touches task q (renice q task nice).1
renice_touches q task nice = reniced_by q task nice (get q.runnable task)

sliced_asleep : (q : State) (task slice : ℕ) (o : Option Sleeper) → Touches task q (set_sleeper_slice q task slice o)
sliced_asleep q task slice None = touches_nothing task q
sliced_asleep q task slice (Some s) = slept q task _

sliced_due : (q : State) (task slice : ℕ) (e : Entry) → get q.runnable task ≡ Some e → NoneIsPastDue q.runnable
    → NoneIsPastDue (insert q.runnable task (record e { slice = slice }))
sliced_due q task slice e here due = due_with q.runnable task (record e { slice = slice }) (due task e here) due

sliced_by : (q : State) (task slice : ℕ) (o : Option Entry) → get q.runnable task ≡ o → Touches task q (set_entry_slice q task slice o)
sliced_by q task slice None here = sliced_asleep q task slice (get q.asleep task)
sliced_by q task slice (Some e) here = record {
  runnable = λ t other. untouched q.runnable task t (record e { slice = slice }) other;
  asleep = λ t other. refl;
  places = λ t other. refl;
  shift = refl;
  runs = λ t other runs. runs;
  due = sliced_due q task slice e here;
}

pub slice_touches : (q : State) (task slice : ℕ) → Touches task q (set_slice q task slice)
slice_touches q task slice = sliced_by q task slice (get q.runnable task) refl

set_asleep : (q : State) (task : ℕ) (nice : ℤ) (slice : ℕ) (o : Option Sleeper) → Touches task q (set_sleeper q task nice slice o).1
set_asleep q task nice slice None = touches_nothing task q
set_asleep q task nice slice (Some s) = slept q task _

set_by : (q : State) (task : ℕ) (nice : ℤ) (slice : ℕ) (a : ReniceAnswer) (r : State) → Touches task q r
    → Touches task q (set_reniced q task nice slice a r).1
set_by q task nice slice reniced.Reniced r h = touches_then task q r (set_slice r task slice) h (slice_touches r task slice)
set_by q task nice slice reniced.NotHere r h = set_asleep q task nice slice (get q.asleep task)
set_by q task nice slice reniced.Range r h = touches_nothing task q

-- ---- a task runs without being picked
adopted_by : (q : State) (task : ℕ) (b : Bool) → Touches task q (cond b (record q { running = Some task }) q)
adopted_by q task true = record {
  runnable = λ t other. refl;
  asleep = λ t other. refl;
  places = λ t other. refl;
  shift = refl;
  runs = λ t other runs. let same : task ≡ t = cc in absurd (other (sym same));
  due = λ due. due;
}
adopted_by q task false = touches_nothing task q

-- ---- a doze and its wake
dozing_touches : (q : State) (task : ℕ) (e : Entry) → Touches task q (dozing_in q task e)
dozing_touches q task e = record {
  runnable = λ t other. left_there q.runnable task t other;
  asleep = λ t other. untouched q.asleep task t (dozing_of q e) other;
  places = λ t other. untouched q.places task t (e.v +ℤ q.shift) other;
  shift = refl;
  runs = λ t other runs. still_running q.running task t runs;
  due = due_without q.runnable task;
}

dozed_off : (q : State) (p : Contents) → Touches p.task q (put_dozing q p)
dozed_off q p = record {
  runnable = λ t other. refl;
  asleep = λ t other. untouched q.asleep p.task t (dozing p) other;
  places = λ t other. untouched q.places p.task t (p.start +ℤ q.shift) other;
  shift = refl;
  runs = λ t other runs. runs;
  due = λ due. due;
}

pub doze_touches : (q : State) (task : ℕ) → Touches task q (doze q task)
doze_touches q task = doze_is (Touches task q) q task (touches_nothing task q) (λ e runs here. dozing_touches q task e)

waking_touches : (q : State) (task : ℕ) (s : Sleeper) → Touches task q (awake_in q task s)
waking_touches q task s =
    let e : Entry = awake_entry q task s in
    record {
      runnable = λ t other. untouched q.runnable task t e other;
      asleep = λ t other. left_there q.asleep task t other;
      places = λ t other. left_there q.places task t other;
      shift = refl;
      runs = λ t other runs. runs;
      due = due_with q.runnable task e (fresh_due (waking_runtime q s (get q.places task)) s.nice s.slice);
    }

pub wake_touches : (q : State) (task : ℕ) → Touches task q (wake q task).1
wake_touches q task = wake_is (Touches task q) q task (touches_nothing task q) (λ s asleep. waking_touches q task s)

pub calls_touch_one : CallsTouchOne
calls_touch_one = record {
  leaves = left;
  leaves_running = left_running;
  sleeps = slept_by;
  leaves_asleep = λ q task. taken_out q task (get q.asleep task);
  falls_asleep = λ q p. slept q p.task (sleeper_of p);
  dozes_off = dozed_off;
  is_admitted = λ q p r is. put_touches q r p.task (sleeper_of p) p.start is;
  joins = λ q task s r is. joined_touches q r task s is;
  begins = λ q task nice slice. begun q task nice slice (get q.asleep task);
  renices = renice_touches;
  is_set = λ q task nice slice. set_by q task nice slice (renice q task nice).0 (renice q task nice).1 (renice_touches q task nice);
  is_adopted = λ q task. adopted_by q task (contains_key q.runnable task);
  dozes = doze_touches;
  wakes = wake_touches;
  one_then_another = touches_then;
}
