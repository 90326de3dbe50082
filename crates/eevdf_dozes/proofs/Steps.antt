-- What each event of a stretch keeps: what is asked of the queue, and how far who runs can be past the deadline of the task that stays.
use Rattle.std.proofs.Common.{◌≡◌, ℕ, ◌+◌, ◌*◌, ◌≤◌, true, List, [], ◌∷◌, Option, Some, sym, ap, ◌∙◌, subst, arith}
use Rattle.std.specs.Prelude.{ℤ, pos, ◌+ℤ◌, ◌≤ℤ◌, is_some}
use Rattle.std.specs.{Option.option_map, FinMap.get}
use Rattle.std.proofs.lemmas.Int.{ints}
use Rattle.eevdf_weight.specs.Weight.{weight_of}
use Rattle.eevdf_queue.specs.{declared.entry.Entry.Entry, State.State, Sums.Tasks, Laws.PickIsFirst, Laws.PickOfNobody, Pick.pick_of, Tick.tick}
use Rattle.eevdf_dozes.specs.Places.{place_of}
use Rattle.eevdf_dozes.specs.Stretches.{Event, Picks, Ticks, Becomes, Watch, HaveLevels, NoneIsPastDue, IsWatched, IsStretch, Stays, RunsOn, IsChange, picked, ticked, after_events, charged_for}
use Rattle.eevdf_dozes.proofs.Optional.{one_place, one_entry, there, CameFrom, came_from, IsThen, is_then, standing}
use Rattle.eevdf_dozes.proofs.Ticking.{IsStill, tick_moves, tick_running_stays, little_charged, tick_keeps, tick_levels, tick_due}
use Rattle.eevdf_dozes.proofs.PicksInTime.{IsInTime, same_tasks, pick_stands, pick_shift, tick_shift, runner_in_time}
use Rattle.eevdf_fairness.proofs.Inequalities.{le_then}
use Rattle.eevdf_fairness.proofs.Growing.{further, little_more}

-- ---- where the task that stays is afterwards: further by a charge, and due no earlier
pub record Goes (task : ℕ) (q r : State) (e : Entry) (x : ℕ) : Type 0 where
  pub entry : Entry
  pub here : get r.runnable task ≡ Some entry
  pub place : entry.v +ℤ r.shift ≡ (e.v +ℤ q.shift) +ℤ pos x
  pub later : (e.d +ℤ q.shift) ≤ℤ (entry.d +ℤ r.shift)

no_more : (z : ℤ) → z ≡ z +ℤ pos 0
no_more z = omega (arith, ints)

same_time : (z : ℤ) → z ≤ℤ z
same_time z = omega (arith, ints)

pub stands : (task : ℕ) (q r : State) (e : Entry) → r.shift ≡ q.shift → get r.runnable task ≡ Some e → Goes task q r e 0
stands task q r e shift here = record {
  entry = e;
  here = here;
  place = ap (λ (z : ℤ). e.v +ℤ z) shift ∙ no_more (e.v +ℤ q.shift);
  later = subst (λ (z : ℤ). (e.d +ℤ q.shift) ≤ℤ (e.d +ℤ z)) (sym shift) (same_time (e.d +ℤ q.shift));
}

pub goes_then : (task : ℕ) (p q r : State) (e : Entry) (x y : ℕ) (g : Goes task p q e x) → Goes task q r g.entry y → Goes task p r e (x + y)
goes_then task p q r e x y g h = record {
  entry = h.entry;
  here = h.here;
  place = further (e.v +ℤ p.shift) (g.entry.v +ℤ q.shift) (h.entry.v +ℤ r.shift) x y g.place h.place;
  later = le_then (e.d +ℤ p.shift) (g.entry.d +ℤ q.shift) (h.entry.d +ℤ r.shift) g.later h.later;
}

pub goes_by_pick : (task : ℕ) (q : State) (e : Entry) → get q.runnable task ≡ Some e → Goes task q (picked q) e 0
goes_by_pick task q e here =
    stands task q (picked q) e (pick_shift q) (ap (λ (m : Tasks). get m task) (same_tasks q (pick_of q.runnable)) ∙ here)

later_then : (d f shift : ℤ) → d ≤ℤ f → (d +ℤ shift) ≤ℤ (f +ℤ shift)
later_then d f shift h = omega (arith, ints, h)

pub goes_by_tick : (task : ℕ) (q : State) (ns : ℕ) (e : Entry) → get q.runnable task ≡ Some e
    → Goes task q (ticked q ns) e (charged_for task q ns)
goes_by_tick task q ns e here =
    let s : IsStill e (get (tick q ns).1.runnable task) = tick_keeps q task ns e here in
    let x : ℕ = charged_for task q ns in
    record {
      entry = s.entry;
      here = s.here;
      place = one_place (s.entry.v +ℤ (ticked q ns).shift) ((e.v +ℤ q.shift) +ℤ pos x) (place_of (ticked q ns) task)
          (standing (ticked q ns).shift (get (ticked q ns).places task) (get (ticked q ns).runnable task) s.entry s.here)
          (tick_moves q task ns ∙ ap (option_map (λ (z : ℤ). z +ℤ pos x)) (standing q.shift (get q.places task) (get q.runnable task) e here));
      later = subst (λ (z : ℤ). (e.d +ℤ q.shift) ≤ℤ (s.entry.d +ℤ z)) (sym (tick_shift q ns)) (later_then e.d s.entry.d q.shift s.later);
    }

pub goes_by_change : (w : Watch) (q r : State) (e : Entry) → IsChange w q r → get q.runnable w.stays ≡ Some e → Goes w.stays q r e 0
goes_by_change w q r e change here =
    let s : Stays w.stays q r e = change.stays e here in
    record { entry = s.entry; here = s.here; place = s.place ∙ no_more (e.v +ℤ q.shift); later = s.later }

-- ---- how far who runs is past a deadline, by what it ran since it was picked
pub record IsLittlePast (w : Watch) (ran task : ℕ) (due place : ℤ) : Type 0 where
  pub by : ℕ
  pub past : place ≤ℤ (due +ℤ pos by)
  pub little : by * weight_of (w.nice_of task) ≤ 1024 * ran

-- what is carried along a stretch
pub record IsCarried (w : Watch) (ran : ℕ) (q : State) : Type 0 where
  pub watched : IsWatched w q
  pub runner : (t : ℕ) (place : ℤ) (e : Entry) → w.counts t ≡ true → q.running ≡ Some t → place_of q t ≡ Some place
      → get q.runnable w.stays ≡ Some e → IsLittlePast w ran t (e.d +ℤ q.shift) place

pub some_is : (o : Option Entry) (e : Entry) → o ≡ Some e → is_some o ≡ true
some_is o e h = ap is_some h

-- ---- a pick
not_past : (w : Watch) (t : ℕ) (due place : ℤ) → place ≤ℤ due → IsLittlePast w 0 t due place
not_past w t due place h = record { by = 0; past = omega (arith, ints, h); little = omega arith }

in_time : (v d shift place : ℤ) → v +ℤ shift ≡ place → v ≤ℤ d → place ≤ℤ (d +ℤ shift)
in_time v d shift place h k = omega (arith, ints, h, k)

pub pick_watched : (w : Watch) (q : State) → IsWatched w q → IsWatched w (picked q)
pick_watched w q c =
    let same : (picked q).runnable ≡ q.runnable = same_tasks q (pick_of q.runnable) in
    record {
      here = ap (λ (m : Tasks). is_some (get m w.stays)) same ∙ c.here;
      levels = subst (HaveLevels w) (sym same) c.levels;
      due = subst NoneIsPastDue (sym same) c.due;
    }

pub pick_carries : PickIsFirst → PickOfNobody → (w : Watch) (q : State) → IsWatched w q → IsCarried w 0 (picked q)
pick_carries first nobody w q c =
    let same : (picked q).runnable ≡ q.runnable = same_tasks q (pick_of q.runnable) in
    record {
      watched = pick_watched w q c;
      runner = λ t place e counts runs at here.
          let then : get q.runnable w.stays ≡ Some e = ap (λ (m : Tasks). get m w.stays) (sym same) ∙ here in
          let p : IsInTime q.runnable t e.d = runner_in_time first nobody q w.stays t e c.due then runs in
          subst (λ (z : ℤ). IsLittlePast w 0 t (e.d +ℤ z) place) (sym (pick_shift q))
          (not_past w t (e.d +ℤ q.shift) place
          (in_time p.entry.v e.d q.shift place
          (one_place (p.entry.v +ℤ q.shift) place (place_of q t) (standing q.shift (get q.places t) (get q.runnable t) p.entry p.here)
          (sym (pick_stands q t) ∙ at)) p.timely));
    }

-- ---- a tick
past_more : (before place due later : ℤ) (by x : ℕ) → before ≤ℤ (due +ℤ pos by) → place ≡ before +ℤ pos x → due ≤ℤ later
    → place ≤ℤ (later +ℤ pos (by + x))
past_more before place due later by x h moved k = omega (arith, ints, h, moved, k)

past_by_charge : (w : Watch) (ran ns t x : ℕ) (due later before place : ℤ) → IsLittlePast w ran t due before → place ≡ before +ℤ pos x → due ≤ℤ later
    → x * weight_of (w.nice_of t) ≤ 1024 * ns → IsLittlePast w (ran + ns) t later place
past_by_charge w ran ns t x due later before place p moved k little = record {
  by = p.by + x;
  past = past_more before place due later p.by x p.past moved k;
  little = little_more p.by x (weight_of (w.nice_of t)) ran ns p.little little;
}

pub tick_watched : (w : Watch) (ns : ℕ) (q : State) → IsWatched w q → IsWatched w (ticked q ns)
tick_watched w ns q c =
    let stay = there (get q.runnable w.stays) c.here in
    let gone : Goes w.stays q (ticked q ns) stay.0 (charged_for w.stays q ns) = goes_by_tick w.stays q ns stay.0 stay.1 in
    record {
      here = some_is (get (tick q ns).1.runnable w.stays) gone.entry gone.here;
      levels = tick_levels w q ns c.levels;
      due = tick_due q ns c.due;
    }

pub tick_carries : (w : Watch) (ran ns : ℕ) (q : State) → IsCarried w ran q → IsCarried w (ran + ns) (ticked q ns)
tick_carries w ran ns q c =
    let stay = there (get q.runnable w.stays) c.watched.here in
    let gone : Goes w.stays q (ticked q ns) stay.0 (charged_for w.stays q ns) = goes_by_tick w.stays q ns stay.0 stay.1 in
    record {
      watched = tick_watched w ns q c.watched;
      runner = λ t place e counts runs at here.
          let same : gone.entry ≡ e = one_entry gone.entry e (get (tick q ns).1.runnable w.stays) gone.here here in
          let x : ℕ = charged_for t q ns in
          let came : CameFrom (place_of q t) x place = came_from (place_of q t) x place (sym (tick_moves q t ns) ∙ at) in
          past_by_charge w ran ns t x (stay.0.d +ℤ q.shift) (e.d +ℤ (ticked q ns).shift) came.before place
          (c.runner t came.before stay.0 counts (sym (tick_running_stays q ns) ∙ runs) came.there stay.1)
          came.moved (subst (λ (y : Entry). (stay.0.d +ℤ q.shift) ≤ℤ (y.d +ℤ (ticked q ns).shift)) same gone.later)
          (little_charged w q t ns c.watched.levels counts);
    }

-- ---- anything else
past_then : (before place due later : ℤ) (by : ℕ) → before ≤ℤ (due +ℤ pos by) → place ≤ℤ before → due ≤ℤ later → place ≤ℤ (later +ℤ pos by)
past_then before place due later by h k l = omega (arith, ints, h, k, l)

past_by_change : (w : Watch) (ran t : ℕ) (due later before place : ℤ) → IsLittlePast w ran t due before → place ≤ℤ before → due ≤ℤ later
    → IsLittlePast w ran t later place
past_by_change w ran t due later before place p h k =
    record { by = p.by; past = past_then before place due later p.by p.past h k; little = p.little }

pub change_watched : (w : Watch) (q r : State) → IsChange w q r → IsWatched w q → IsWatched w r
change_watched w q r change c =
    let stay = there (get q.runnable w.stays) c.here in
    let gone : Goes w.stays q r stay.0 0 = goes_by_change w q r stay.0 change stay.1 in
    record {
      here = some_is (get r.runnable w.stays) gone.entry gone.here;
      levels = change.levels c.levels;
      due = change.due c.due;
    }

pub change_carries : (w : Watch) (ran : ℕ) (q r : State) → IsChange w q r → IsCarried w ran q → IsCarried w ran r
change_carries w ran q r change c =
    let stay = there (get q.runnable w.stays) c.watched.here in
    let gone : Goes w.stays q r stay.0 0 = goes_by_change w q r stay.0 change stay.1 in
    record {
      watched = change_watched w q r change c.watched;
      runner = λ t place e counts runs at here.
          let same : gone.entry ≡ e = one_entry gone.entry e (get r.runnable w.stays) gone.here here in
          let on : RunsOn t q r = change.runner t counts runs in
          let was : IsThen place (place_of q t) = is_then place (place_of r t) (place_of q t) on.no_further at in
          past_by_change w ran t (stay.0.d +ℤ q.shift) (e.d +ℤ r.shift) was.place place
          (c.runner t was.place stay.0 counts on.ran was.there stay.1) was.later
          (subst (λ (y : Entry). (stay.0.d +ℤ q.shift) ≤ℤ (y.d +ℤ r.shift)) same gone.later);
    }

-- ---- along a stretch
pub watched_after : (w : Watch) (ran : ℕ) (q : State) (events : List Event) → IsWatched w q → IsStretch w ran q events
    → IsWatched w (after_events q events)
watched_after w ran q [] watched h = watched
watched_after w ran q (Picks ∷ events) watched h = watched_after w 0 (picked q) events (pick_watched w q watched) h
watched_after w ran q (Ticks ns ∷ events) watched h = watched_after w (ran + ns) (ticked q ns) events (tick_watched w ns q watched) h.1
watched_after w ran q (Becomes r ∷ events) watched h = watched_after w ran r events (change_watched w q r h.0 watched) h.1
