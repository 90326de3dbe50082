-- What each call of a queue touches.
use Rattle.std.proofs.Common.{◌≡◌, ℕ, Bool, true, false, cond, Option, Some, None, Result, Ok, Err, refl, sym, ap, ◌∙◌}
use Rattle.std.specs.Prelude.{ℤ}
use Rattle.std.specs.FinMap.{get, insert}
use Rattle.eevdf_queue.specs.{declared.entry.Entry.Entry, declared.sleeper.Sleeper.Sleeper, declared.refusal.Refusal.Refusal, State.State, State.Contents}
use Rattle.eevdf_queue.specs.declared.refusal.Refusal.TheVariants.{Present}
use Rattle.eevdf_queue.specs.declared.answers.ReniceAnswer.{ReniceAnswer}
use Rattle.eevdf_queue.specs.declared.answers.ReniceAnswer.TheVariants as reniced
use Rattle.eevdf_queue.specs.{Moves.admit, Moves.with_runnable, Placing.put, Wake.wake}
use Rattle.eevdf_queue.specs.{Renice.renice, Renice.renice_to, Renice.renice_entry, Renice.reniced as rejoining, Leaving.leave}
use Rattle.eevdf_queue.specs.{SliceChange.set_entry_slice, SliceChange.set_sleeper_slice, Attributes.set, Attributes.set_reniced, Attributes.set_sleeper}
use Rattle.eevdf_queue.specs.{Trying.is_here, Trying.tried, Trying.unless_out_of_range}
use Rattle.eevdf_dozes.specs.Calls.{Touches}
use Rattle.eevdf_dozes.proofs.{Dozing.wake_is, Touching.calls_touch_one}
use Rattle.eevdf_fair_queue.proofs.Settled.{IsOfOne}

same_runner : (running now : Option ℕ) (t : ℕ) → now ≡ running → now ≡ Some t → running ≡ Some t
same_runner running now t same is = sym same ∙ is

by_touch : (task : ℕ) (q r : State) → Touches task q r → r.running ≡ q.running → IsOfOne task q r
by_touch task q r h same = record { others = h.runnable; runs = λ t. same_runner q.running r.running t same; due = h.due }

-- ---- a task joins
put_running : (q r : State) (task : ℕ) (o : Option Entry) → with_runnable q task o ≡ Some r → r.running ≡ q.running
put_running q r task None h = cc
put_running q r task (Some e) h =
    let is : record q { runnable = insert q.runnable task e } ≡ r = cc in
    ap (λ (x : State). x.running) (sym is)

pub admitted : (q r : State) (p : Contents) → admit q p ≡ Some r → IsOfOne p.task q r
admitted q r p h =
    by_touch p.task q r (calls_touch_one.is_admitted q p r h) (put_running q r p.task _ h)

pub joined : (q r : State) (task : ℕ) (s : Sleeper) → put q task s ≡ Some r → IsOfOne task q r
joined q r task s h = by_touch task q r (calls_touch_one.joins q task s r h) (put_running q r task _ h)

-- where a task has joined that was tried to
from_some : (o : Option State) (r : State) → unless_out_of_range o ≡ Ok r → o ≡ Some r
from_some None r h = cc
from_some (Some x) r h = cc

has_joined : (q r : State) (task : ℕ) (o : Option State) → tried q task o ≡ Ok r → o ≡ Some r
has_joined q r task o =
    by (is_here q task)
  where
    by : (b : Bool) → cond {A = Result State Refusal} b (Err Present) (unless_out_of_range o) ≡ Ok r → o ≡ Some r
    by true h = cc
    by false h = from_some o r h

pub try_admitted : (q r : State) (p : Contents) → tried q p.task (admit q p) ≡ Ok r → IsOfOne p.task q r
try_admitted q r p h = admitted q r p (has_joined q r p.task (admit q p) h)

pub try_joined : (q r : State) (task : ℕ) (s : Sleeper) → tried q task (put q task s) ≡ Ok r → IsOfOne task q r
try_joined q r task s h = joined q r task s (has_joined q r task (put q task s) h)

-- ---- a wake
wake_running : (q : State) (task : ℕ) → (wake q task).1.running ≡ q.running
wake_running q task = wake_is (λ r. r.running ≡ q.running) q task refl (λ s asleep. refl)

pub woken : (q : State) (task : ℕ) → IsOfOne task q (wake q task).1
woken q task = by_touch task q (wake q task).1 (calls_touch_one.wakes q task) (wake_running q task)

-- ---- another level, another slice
to_running : (q : State) (o : Option State) → (renice_to q o).1.running ≡ q.running
to_running q None = refl
to_running q (Some r) = refl

by_running : (q : State) (task : ℕ) (nice : ℤ) (o : Option Entry) → (renice_entry q task nice o).1.running ≡ q.running
by_running q task nice None = refl
by_running q task nice (Some e) = to_running q (put (leave q task) task (rejoining q e nice))

renice_running : (q : State) (task : ℕ) (nice : ℤ) → (renice q task nice).1.running ≡ q.running
renice_running q task nice = by_running q task nice (get q.runnable task)

pub changed_level : (q : State) (task : ℕ) (nice : ℤ) → IsOfOne task q (renice q task nice).1
changed_level q task nice = by_touch task q (renice q task nice).1 (calls_touch_one.renices q task nice) (renice_running q task nice)

slice_asleep_running : (q : State) (task slice : ℕ) (o : Option Sleeper) → (set_sleeper_slice q task slice o).running ≡ q.running
slice_asleep_running q task slice None = refl
slice_asleep_running q task slice (Some s) = refl

slice_running_by : (q : State) (task slice : ℕ) (o : Option Entry) → (set_entry_slice q task slice o).running ≡ q.running
slice_running_by q task slice None = slice_asleep_running q task slice (get q.asleep task)
slice_running_by q task slice (Some e) = refl

set_asleep_running : (q : State) (task : ℕ) (nice : ℤ) (slice : ℕ) (o : Option Sleeper) → (set_sleeper q task nice slice o).1.running ≡ q.running
set_asleep_running q task nice slice None = refl
set_asleep_running q task nice slice (Some s) = refl

set_running_by : (q : State) (task : ℕ) (nice : ℤ) (slice : ℕ) (a : ReniceAnswer) (r : State) → r.running ≡ q.running
    → (set_reniced q task nice slice a r).1.running ≡ q.running
set_running_by q task nice slice reniced.Reniced r h = slice_running_by r task slice (get r.runnable task) ∙ h
set_running_by q task nice slice reniced.NotHere r h = set_asleep_running q task nice slice (get q.asleep task)
set_running_by q task nice slice reniced.Range r h = refl

pub changed_both : (q : State) (task : ℕ) (nice : ℤ) (slice : ℕ) → IsOfOne task q (set q task nice slice).1
changed_both q task nice slice =
    by_touch task q (set q task nice slice).1 (calls_touch_one.is_set q task nice slice)
    (set_running_by q task nice slice (renice q task nice).0 (renice q task nice).1 (renice_running q task nice))
