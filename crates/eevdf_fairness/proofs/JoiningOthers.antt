-- Wakes, pulls, renices and sets let a task join others, and a fresh start is level.
use Rattle.std.proofs.Common.{◌≡◌, ℕ, ◌≤◌, Bool, true, false, cond, Option, Some, None, refl, sym, ap, ◌∙◌, subst, arith}
use Rattle.std.specs.Prelude.{ℤ, pos, ◌+ℤ◌, ◌-ℤ◌, ◌≤ℤ◌, int_lt, unsigned_abs}
use Rattle.std.specs.FinMap.{get, insert}
use Rattle.std.proofs.lemmas.Int.{ints}
use Rattle.eevdf_queue.specs.{declared.entry.Entry.Entry, declared.sleeper.Sleeper.Sleeper, State.State, Sums.Tasks, Sums.total_weight, Lag.is_lag, Leaving.leave, Leaving.without_entry}
use Rattle.eevdf_queue.specs.{declared.answers.ReniceAnswer.ReniceAnswer, Moves.request_of, Moves.fresh_entry, Moves.is_entry_in_range, Moves.with_runnable}
use Rattle.eevdf_queue.specs.declared.answers.WakeAnswer.TheVariants.{Woken}
use Rattle.eevdf_queue.specs.{Placing.placement, Wake.wake, Wake.wake_to, Wake.wake_sleeper, Wake.waking_runtime}
use Rattle.eevdf_queue.specs.declared.answers.ReniceAnswer.TheVariants as reniced_to
use Rattle.eevdf_queue.specs.declared.answers.SetAnswer.TheVariants.{Set}
use Rattle.eevdf_queue.specs.{Renice.renice, Renice.reniced, Renice.renice_entry, Renice.renice_to, Placing.put, Attributes.set_reniced, SliceChange.set_slice, SliceChange.set_entry_slice}
use Rattle.eevdf_fairness.specs.{Joining.Joins, JoiningDeeds.HasOthers, OneCpuJoins.JoinsOthers}
use Rattle.eevdf_fairness.specs.JoiningOthers.{IsBesideOthers, past_placement, WakesAmongOthers, DeedsJoinOthers, StartsAreLevel}
use Rattle.eevdf_fairness.proofs.{Rules.at_most, Rules.asked_after, Growing.get_here, Growing.insert_twice, Joining.joiner, Joining.joiner_past, Joining.joined_tasks, JoiningDeeds.reniced_joins, OneCpuJoins.left_absent}

-- ---- a task that comes from elsewhere
no_further : (v : ℤ) → v ≡ v +ℤ pos 0
no_further v = omega (arith, ints)

at_placement : (q : State) (s : Sleeper) → joiner q s ≡ joiner_past q s 0
at_placement q s = ap (λ (v : ℤ). fresh_entry v s.nice s.slice) (no_further (placement q s))

coming : (q : State) (task : ℕ) (s : Sleeper) (past : ℕ) (r : State) → HasOthers q task → is_lag s.lag s.nice s.slice ≡ true
    → r.runnable ≡ insert q.runnable task (joiner_past q s past) → JoinsOthers q task r
coming q task s past r others limited is =
    let gone : leave q task ≡ q = ap (without_entry q task) others.absent in
    record {
      sleeper = s;
      past = past;
      next = s.slice;
      some = subst (λ (p : State). 1 ≤ total_weight p.runnable) (sym gone) others.some;
      limited = limited;
      joined = subst (λ (p : State). r.runnable ≡ insert p.runnable task (joiner_past p s past)) (sym gone) is;
    }

joins_others : (q : State) (task : ℕ) (s : Sleeper) (r : State) → Joins q task s r → JoinsOthers q task r
joins_others q task s r j =
    coming q task s 0 r (record { some = j.some; absent = j.absent }) j.limited (joined_tasks q r task s j ∙ ap (insert q.runnable task) (at_placement q s))

-- ---- a task that wakes
later_by : (a b : ℤ) (c d : Bool) → int_lt b a ≡ c → int_lt (a -ℤ b) (pos 0) ≡ d → cond c a b ≡ b +ℤ pos (unsigned_abs (cond d (pos 0) (a -ℤ b)))
later_by a b true true is negative = omega (arith, ints, is, negative)
later_by a b true false is negative = omega (arith, ints, is, negative)
later_by a b false true is negative = omega (arith, ints, is, negative)
later_by a b false false is negative = omega (arith, ints, is, negative)

wakes_past : (q : State) (s : Sleeper) (place : Option ℤ) → waking_runtime q s place ≡ (placement q s) +ℤ pos (past_placement q s place)
wakes_past q s None = no_further (placement q s)
wakes_past q s (Some place) = later_by (place -ℤ q.shift) (placement q s) (int_lt (placement q s) (place -ℤ q.shift))
    (int_lt ((place -ℤ q.shift) -ℤ placement q s) (pos 0)) refl refl

module _ (q : State) (task : ℕ) (s : Sleeper) (others : HasOthers q task) (limited : is_lag s.lag s.nice s.slice ≡ true) where
  among : (r : State) → r.runnable ≡ insert q.runnable task (fresh_entry (waking_runtime q s (get q.places task)) s.nice s.slice) → JoinsOthers q task r
  among r is =
      coming q task s (past_placement q s (get q.places task)) r others limited
      (is ∙ ap (λ (v : ℤ). insert q.runnable task (fresh_entry v s.nice s.slice)) (wakes_past q s (get q.places task)))

  woken_by : (b : Bool) (e : Entry) → e ≡ fresh_entry (waking_runtime q s (get q.places task)) s.nice s.slice
      → (wake_to q task (with_runnable q task (cond b (Some e) None))).0 ≡ Woken
      → (wake_to q task (with_runnable q task (cond b (Some e) None))).1.runnable ≡ insert q.runnable task (fresh_entry (waking_runtime q s (get q.places task)) s.nice s.slice)
  woken_by true e is woken = ap (insert q.runnable task) is
  woken_by false e is woken = cc

  wakes_others : get q.asleep task ≡ Some s → (wake q task).0 ≡ Woken → WakesAmongOthers q task s
  unfolding among coming
  wakes_others asleep woken =
      let e : Entry = fresh_entry (waking_runtime q s (get q.places task)) s.nice s.slice in
      let is : (wake q task).1.runnable ≡ insert q.runnable task e =
      subst (λ (o : Option Sleeper). (wake_sleeper q task o).0 ≡ Woken → (wake_sleeper q task o).1.runnable ≡ insert q.runnable task e) (sym asleep)
      (woken_by (is_entry_in_range e) e refl) woken in
      record { joins = among (wake q task).1 is; sleeper = refl; past = refl }

-- ---- one that is there
done_or_range : (q : State) (o : Option State) → (renice_to q o).0 ≡ reniced_to.NotHere → ⊥
done_or_range q None is = cc
done_or_range q (Some placed) is = cc

here_not : (q : State) (task : ℕ) (nice : ℤ) (o : Option Entry) (e : Entry) → o ≡ Some e → (renice_entry q task nice o).0 ≡ reniced_to.NotHere → ⊥
here_not q task nice None e here is = cc
here_not q task nice (Some f) e here is = done_or_range q (put (leave q task) task (reniced q f nice)) is

module _ (q : State) (task : ℕ) (nice : ℤ) (e : Entry) (beside : IsBesideOthers q task e) where
  others : HasOthers (leave q task) task
  others = record { some = beside.some; absent = left_absent q task (get q.runnable task) refl }

  renice_joins : (renice q task nice).0 ≡ reniced_to.Reniced → Joins (leave q task) task (reniced q e nice) (renice q task nice).1
  renice_joins done = reniced_joins q task nice e beside.here others done

  others_joined : (r : State) (slice : ℕ) → r.runnable ≡ insert (leave q task).runnable task (record (joiner (leave q task) (reniced q e nice)) { slice = slice })
      → is_lag (reniced q e nice).lag nice e.slice ≡ true → JoinsOthers q task r
  others_joined r slice is limited = record {
    sleeper = reniced q e nice;
    past = 0;
    next = slice;
    some = beside.some;
    limited = limited;
    joined = is ∙ ap (λ (x : Entry). insert (leave q task).runnable task (record x { slice = slice })) (at_placement (leave q task) (reniced q e nice));
  }

  renices_others : (renice q task nice).0 ≡ reniced_to.Reniced → JoinsOthers q task (renice q task nice).1
  renices_others done =
      let j : Joins (leave q task) task (reniced q e nice) (renice q task nice).1 = renice_joins done in
      others_joined (renice q task nice).1 e.slice (joined_tasks (leave q task) (renice q task nice).1 task (reniced q e nice) j) j.limited

  -- another slice of the task that has just joined
  slice_set : (r : State) (slice : ℕ) (m : Tasks) (f : Entry) → r.runnable ≡ insert m task f → (set_slice r task slice).runnable ≡ insert m task (record f { slice = slice })
  slice_set r slice m f is =
      let here : get r.runnable task ≡ Some f = ap (λ (n : Tasks). get n task) is ∙ get_here m task f in
      ap (λ (o : Option Entry). (set_entry_slice r task slice o).runnable) here
      ∙ ap (λ (n : Tasks). insert n task (record f { slice = slice })) is ∙ insert_twice m task f (record f { slice = slice })

  set_by : (slice : ℕ) (a : ReniceAnswer) → (renice q task nice).0 ≡ a → (set_reniced q task nice slice a (renice q task nice).1).0 ≡ Set
      → JoinsOthers q task (set_reniced q task nice slice a (renice q task nice).1).1
  set_by slice reniced_to.Reniced is done =
      let j : Joins (leave q task) task (reniced q e nice) (renice q task nice).1 = renice_joins is in
      others_joined (set_slice (renice q task nice).1 task slice) slice
      (slice_set (renice q task nice).1 slice (leave q task).runnable (joiner (leave q task) (reniced q e nice))
      (joined_tasks (leave q task) (renice q task nice).1 task (reniced q e nice) j)) j.limited
  set_by slice reniced_to.NotHere is done = absurd (here_not q task nice (get q.runnable task) e beside.here is)
  set_by slice reniced_to.Range is done = cc

pub deeds_join_others : DeedsJoinOthers
deeds_join_others = record {
  joins = joins_others;
  wakes = λ q task s others limited. wakes_others q task s others limited;
  renices = renices_others;
  sets = λ q task nice slice e beside done. set_by q task nice e beside slice (renice q task nice).0 refl done;
}

-- ---- level tasks
pub starts_are_level : StartsAreLevel
starts_are_level = record {
  fresh = λ v tasks fresh. record {
    time = v;
    none_past = λ t e here. at_most e.v v (ap (λ (x : Entry). x.v) (fresh t e here));
    none_due = λ t e here. asked_after e.d v (request_of e.nice e.slice) (ap (λ (x : Entry). x.d) (fresh t e here));
  };
  alone = λ tasks e only due. record {
    time = e.v;
    none_past = λ t f here. at_most f.v e.v (ap (λ (x : Entry). x.v) (only t f here));
    none_due = λ t f here. subst (λ (x : Entry). e.v ≤ℤ x.d) (sym (only t f here)) due;
  };
}
