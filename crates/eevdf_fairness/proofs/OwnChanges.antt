-- What a CPU's own deed on its queue alone changes of the runnable tasks and of who runs, by its answer.
use Rattle.std.proofs.Common.{◌≡◌, ℕ, suc, zero, Bool, true, false, cond, Option, Some, None, refl, sym, ap, ◌∙◌, subst, arith}
use Rattle.std.specs.Prelude.{ℤ, pos, negsuc, ◌+ℤ◌, is_some}
use Rattle.std.specs.FinMap.{get, contains_key, empty}
use Rattle.std.proofs.lemmas.Int.{ints}
use Rattle.eevdf_queue.specs.{declared.entry.Entry.Entry, declared.sleeper.Sleeper.Sleeper, State.State, Moves.is_entry_in_range, Moves.with_runnable, Leaving.leave, Placing.put, Rebase.lowered_tasks, Rebase.can_rebase, Rebase.rebased}
use Rattle.eevdf_weight.specs.Limits.{is_in_range}
use Rattle.eevdf_queue.specs.{declared.answers.TickAnswer.TickAnswer, declared.answers.ReniceAnswer.ReniceAnswer, declared.answers.SetAnswer.SetAnswer}
use Rattle.eevdf_queue.specs.{declared.answers.YieldAnswer.YieldAnswer, declared.answers.WakeAnswer.WakeAnswer}
use Rattle.eevdf_queue.specs.declared.answers.TickAnswer.TheVariants as ticked
use Rattle.eevdf_queue.specs.declared.answers.ReniceAnswer.TheVariants as reniced
use Rattle.eevdf_queue.specs.declared.answers.YieldAnswer.TheVariants as yields
use Rattle.eevdf_queue.specs.{Pick.pick_of, Pick.picked_by, Pick.after_pick, Rebase.rebase, Attributes.begin, Attributes.begin_sleeper, Attributes.set, Attributes.set_reniced, Attributes.set_sleeper, SliceChange.set_entry_slice, SliceChange.set_sleeper_slice}
use Rattle.eevdf_queue.specs.{Tick.tick, Tick.tick_running, Tick.tick_entry, Tick.charged, Yield.yield_now, Yield.yield_running, Yield.yield_entry, Yield.yielded}
use Rattle.eevdf_queue.specs.Sums.{Tasks, total_weight, total_moment, sum_weights, sum_moments, time_over, virtual_time}
use Rattle.eevdf_queue.specs.{Wake.wake, Wake.wake_sleeper, Wake.wake_to, Wake.waking_entry, Renice.renice, Renice.renice_entry, Renice.renice_to}
use Rattle.eevdf_queue.specs.Renice.{reniced as joins_again}
use Rattle.eevdf_queue.proofs.MapFolds.{entries-empty}
use Rattle.eevdf_ops.specs.declared.deeds.Answer.TheVariants.{Rebased}
use Rattle.eevdf_ops.specs.declared.deeds.Deed.TheVariants as deed
use Rattle.eevdf_ops.specs.OneQueue.{answer_of_tick, answer_of_pick, answer_of_yield, answer_of_wake, answer_of_renice, answer_of_set, answer_of_begin}
use Rattle.eevdf_fairness.specs.Leavings.{HaveSameTimes}
use Rattle.eevdf_fairness.specs.OneCpuSteps.{Change, Picks, Ticks, Loses, Lowers, Gains, Yields, own_change}
use Rattle.eevdf_fairness.proofs.{Falling.rebase_runnable, Falling.rebase_running, LoweredAgain.tasks_same, SameTimes.alike, SameTimes.of_same}

-- ---- changes, and what they make of a queue
abbrev pub changed : Change → State → State
changed Picks q = after_pick q
changed (Ticks ns) q = (tick q ns).1
changed (Loses task) q = leave q task
changed Lowers q = (rebase q).1
changed (Gains task) q = q
changed Yields q = q

abbrev pub changed_by : Option Change → State → State
changed_by None q = q
changed_by (Some change) q = changed change q

abbrev pub IsOfSteps : Change → Type 0
IsOfSteps Picks = Unit {0}
IsOfSteps (Ticks ns) = Unit {0}
IsOfSteps (Loses task) = Unit {0}
IsOfSteps Lowers = Unit {0}
IsOfSteps (Gains task) = ⊥
IsOfSteps Yields = ⊥

abbrev pub MayBeOfSteps : Option Change → Type 0
MayBeOfSteps None = Unit {0}
MayBeOfSteps (Some change) = IsOfSteps change

-- what a change that is told says of a queue that was `q` and is `r`
abbrev pub IsTold : Option Change → State → State → Type 0
IsTold None q r = HaveSameTimes r q
IsTold (Some Picks) q r = HaveSameTimes r (after_pick q)
IsTold (Some (Ticks ns)) q r = (is_some q.running ≡ true) × HaveSameTimes r (tick q ns).1
IsTold (Some (Loses task)) q r = HaveSameTimes r (leave q task)
IsTold (Some Lowers) q r = HaveSameTimes r (rebase q).1
IsTold (Some (Gains task)) q r = r.running ≡ q.running
IsTold (Some Yields) q r = HaveSameTimes r (yield_now q).1

pub told_step : (o : Option Change) (q r : State) → IsTold o q r → MayBeOfSteps o → HaveSameTimes r (changed_by o q)
told_step None q r told steps = told
told_step (Some Picks) q r told steps = told
told_step (Some (Ticks ns)) q r told steps = told.1
told_step (Some (Loses task)) q r told steps = told
told_step (Some Lowers) q r told steps = told
told_step (Some (Gains task)) q r told steps = absurd steps
told_step (Some Yields) q r told steps = absurd steps

by_either : {X : Type 0} (P : X → Type 0) (b : Bool) (x y : X) → P x → P y → P (cond b x y)
by_either P true x y h k = h
by_either P false x y h k = k

-- ---- a tick that charges nobody
abbrev IsRefused : TickAnswer → Type 0
IsRefused (ticked.Charged task resched) = ⊥
IsRefused ticked.Idle = Unit {0}
IsRefused ticked.Range = Unit {0}

abbrev StaysRefused : State → TickAnswer × State → Type 0
StaysRefused q p = IsRefused p.0 → p.1 ≡ q

tick_of : (q : State) (t ns : ℕ) (o : Option Entry) → StaysRefused q (tick_entry q t o ns)
tick_of q t ns None = λ refused. refl
tick_of q t ns (Some e) = by_either (StaysRefused q) (is_entry_in_range (charged e ns)) _ (ticked.Range, q) (λ refused. absurd refused) (λ refused. refl)

tick_stays : (q : State) (ns : ℕ) (o : Option ℕ) → StaysRefused q (tick_running q o ns)
tick_stays q ns None = λ refused. refl
tick_stays q ns (Some t) = tick_of q t ns (get q.runnable t)

pub tick_told : (q : State) (at ns : ℕ) → IsTold (own_change q (deed.Tick at ns) (answer_of_tick (tick q ns).0)) q (tick q ns).1
tick_told q at ns = by (tick q ns).0 refl
  where
    runs_by : {task : ℕ} {resched : Bool} (o : Option ℕ) → q.running ≡ o → (tick q ns).0 ≡ ticked.Charged task resched → is_some q.running ≡ true
    runs_by None runs is = let idle : (tick q ns).0 ≡ ticked.Idle = ap (λ (o : Option ℕ). (tick_running q o ns).0) runs in cc
    runs_by (Some t) runs is = ap (λ (o : Option ℕ). is_some o) runs

    by : (a : TickAnswer) → (tick q ns).0 ≡ a → IsTold (own_change q (deed.Tick at ns) (answer_of_tick a)) q (tick q ns).1
    by (ticked.Charged task resched) is = (runs_by q.running refl is, alike (tick q ns).1)
    by ticked.Idle is = of_same _ _ (tick_stays q ns q.running (subst IsRefused (sym is) tt))
    by ticked.Range is = of_same _ _ (tick_stays q ns q.running (subst IsRefused (sym is) tt))

-- ---- a pick of nobody
pub pick_told : (q : State) (at : ℕ) → IsTold (own_change q (deed.Pick at) (answer_of_pick (pick_of q.runnable))) q (after_pick q)
pick_told q at = by (pick_of q.runnable) refl
  where
    by : (o : Option ℕ) → pick_of q.runnable ≡ o → IsTold (own_change q (deed.Pick at) (answer_of_pick o)) q (after_pick q)
    by None is = of_same _ _ (ap (picked_by q) is)
    by (Some t) is = alike (after_pick q)

-- ---- a rebase by 0
pub rebase_told : (q : State) (at : ℕ) → IsTold (own_change q (deed.Rebase at) (Rebased (rebase q).0)) q (rebase q).1
rebase_told q at = by (rebase q).0 refl
  where
    time_of_none : q.runnable ≡ empty → virtual_time q ≡ q.base
    time_of_none none =
        ap (λ (m : Tasks). time_over (total_weight m) (total_moment m) q.base) none ∙ ap (λ es. time_over (sum_weights es) (sum_moments es) q.base) entries-empty

    base_by : (b : Bool) → (cond {A = ℤ × State} b (virtual_time q, rebased q) (pos 0, q)).0 ≡ pos 0 → q.runnable ≡ empty
        → (cond {A = ℤ × State} b (virtual_time q, rebased q) (pos 0, q)).1.base ≡ q.base
    base_by true is none = sym is ∙ time_of_none none
    base_by false is none = refl

    nothing_more : (x y : ℤ) → y ≡ pos 0 → x +ℤ y ≡ x
    nothing_more x y is = omega (arith, ints, is)

    shift_by : (b : Bool) → (cond {A = ℤ × State} b (virtual_time q, rebased q) (pos 0, q)).0 ≡ pos 0
        → (cond {A = ℤ × State} b (virtual_time q, rebased q) (pos 0, q)).1.shift ≡ q.shift
    shift_by true is = nothing_more q.shift (virtual_time q) is
    shift_by false is = refl

    by : (z : ℤ) → (rebase q).0 ≡ z → IsTold (own_change q (deed.Rebase at) (Rebased z)) q (rebase q).1
    by (pos zero) is = record {
      tasks = record {
        runnable = rebase_runnable q ∙ ap (λ (z : ℤ). lowered_tasks z q.runnable) is ∙ tasks_same q.runnable;
        running = rebase_running q;
      };
      base = λ none. base_by (can_rebase q) is (sym (tasks_same q.runnable) ∙ ap (λ (z : ℤ). lowered_tasks z q.runnable) (sym is) ∙ sym (rebase_runnable q) ∙ none);
      shift = shift_by (can_rebase q) is;
    }
    by (pos (suc n)) is = alike (rebase q).1
    by (negsuc n) is = alike (rebase q).1

-- ---- a yield that is refused
abbrev IsUnyielded : YieldAnswer → Type 0
IsUnyielded yields.Yielded = ⊥
IsUnyielded yields.Idle = Unit {0}
IsUnyielded yields.Range = Unit {0}

abbrev StaysUnyielded : State → YieldAnswer × State → Type 0
StaysUnyielded q p = IsUnyielded p.0 → p.1 ≡ q

yield_of : (q : State) (t : ℕ) (o : Option Entry) → StaysUnyielded q (yield_entry q t o)
yield_of q t None = λ refused. refl
yield_of q t (Some e) = by_either (StaysUnyielded q) (is_in_range (yielded e).d) _ (yields.Range, q) (λ refused. absurd refused) (λ refused. refl)

yield_stays : (q : State) (o : Option ℕ) → StaysUnyielded q (yield_running q o)
yield_stays q None = λ refused. refl
yield_stays q (Some t) = yield_of q t (get q.runnable t)

pub yield_told : (q : State) (at : ℕ) → IsTold (own_change q (deed.Yield at) (answer_of_yield (yield_now q).0)) q (yield_now q).1
yield_told q at = by (yield_now q).0 refl
  where
    by : (a : YieldAnswer) → (yield_now q).0 ≡ a → IsTold (own_change q (deed.Yield at) (answer_of_yield a)) q (yield_now q).1
    by yields.Yielded is = alike (yield_now q).1
    by yields.Idle is = of_same _ _ (yield_stays q q.running (subst IsUnyielded (sym is) tt))
    by yields.Range is = of_same _ _ (yield_stays q q.running (subst IsUnyielded (sym is) tt))

-- ---- a wake
module _ (q : State) (at task sender : ℕ) where
  abbrev Wakes : WakeAnswer × State → Type 0
  Wakes p = IsTold (own_change q (deed.Wake at task sender) (answer_of_wake p.0)) q p.1

  wake_by : (o : Option Entry) → Wakes (wake_to q task (with_runnable q task o))
  wake_by None = alike q
  wake_by (Some e) = refl

  wake_of : (o : Option Sleeper) → Wakes (wake_sleeper q task o)
  wake_of None = alike q
  wake_of (Some s) = wake_by (waking_entry q s (get q.places task))

  pub wake_told : IsTold (own_change q (deed.Wake at task sender) (answer_of_wake (wake q task).0)) q (wake q task).1
  wake_told = wake_of (get q.asleep task)

-- ---- a renice
module _ (q : State) (at task : ℕ) (nice : ℤ) where
  abbrev Renices : ReniceAnswer × State → Type 0
  Renices p = IsTold (own_change q (deed.Renice at task nice) (answer_of_renice p.0)) q p.1

  renice_by : (o : Option State) → Renices (renice_to q o)
  renice_by None = alike q
  renice_by (Some placed) = refl

  renice_of : (o : Option Entry) → Renices (renice_entry q task nice o)
  renice_of None = alike q
  renice_of (Some e) = renice_by (put (leave q task) task (joins_again q e nice))

  pub renice_told : IsTold (own_change q (deed.Renice at task nice) (answer_of_renice (renice q task nice).0)) q (renice q task nice).1
  renice_told = renice_of (get q.runnable task)

-- who runs before runs on
renice_runs_by : (q : State) (o : Option State) → (renice_to q o).1.running ≡ q.running
renice_runs_by q None = refl
renice_runs_by q (Some placed) = refl

renice_runs : (q : State) (task : ℕ) (nice : ℤ) (o : Option Entry) → (renice_entry q task nice o).1.running ≡ q.running
renice_runs q task nice None = refl
renice_runs q task nice (Some e) = renice_runs_by q (put (leave q task) task (joins_again q e nice))

-- ---- a set
absent_not_here : (q : State) (task : ℕ) (nice : ℤ) (o : Option Entry) → is_some o ≡ false → (renice_entry q task nice o).0 ≡ reniced.NotHere
absent_not_here q task nice None absent = refl
absent_not_here q task nice (Some e) absent = cc

module _ (q : State) (at task : ℕ) (nice : ℤ) (slice : ℕ) where
  abbrev Sets : SetAnswer × State → Type 0
  Sets p = IsTold (own_change q (deed.Set at task nice slice) (answer_of_set p.0)) q p.1

  told_by : (r : State) (b : Bool) → HaveSameTimes r q → IsTold (cond b (Some (Gains task)) None) q r
  told_by r true same = same.tasks.running
  told_by r false same = same

  -- a task that sleeps stays asleep
  asleep_set : (o : Option Sleeper) → Sets (set_sleeper q task nice slice o)
  asleep_set None = alike q
  asleep_set (Some s) = told_by (set_sleeper q task nice slice (Some s)).1 (contains_key q.runnable task) (record { tasks = record { runnable = refl; running = refl }; base = λ none. refl; shift = refl })

  sleeper_runs : (r : State) (o : Option Sleeper) → (set_sleeper_slice r task slice o).running ≡ r.running
  sleeper_runs r None = refl
  sleeper_runs r (Some s) = refl

  slice_runs : (r : State) (o : Option Entry) → (set_entry_slice r task slice o).running ≡ r.running
  slice_runs r None = sleeper_runs r (get r.asleep task)
  slice_runs r (Some e) = refl

  runnable_set : (r : State) (b : Bool) → contains_key q.runnable task ≡ b → (renice q task nice).0 ≡ reniced.Reniced → r.running ≡ q.running
      → IsTold (cond b (Some (Gains task)) None) q r
  runnable_set r true here done runs = runs
  runnable_set r false here done runs =
      let none : (renice q task nice).0 ≡ reniced.NotHere = absent_not_here q task nice (get q.runnable task) here in
      cc

  set_by : (a : ReniceAnswer) (r : State) → (renice q task nice).0 ≡ a → r.running ≡ q.running → Sets (set_reniced q task nice slice a r)
  set_by reniced.Reniced r is runs = runnable_set _ (contains_key q.runnable task) refl is (slice_runs r (get r.runnable task) ∙ runs)
  set_by reniced.NotHere r is runs = asleep_set (get q.asleep task)
  set_by reniced.Range r is runs = alike q

  pub set_told : IsTold (own_change q (deed.Set at task nice slice) (answer_of_set (set q task nice slice).0)) q (set q task nice slice).1
  set_told = set_by (renice q task nice).0 (renice q task nice).1 refl (renice_runs q task nice (get q.runnable task))

-- ---- a begin
pub begin_told : (q : State) (at task : ℕ) (nice : ℤ) (slice : ℕ)
    → IsTold (own_change q (deed.Begin at task nice slice) (answer_of_begin (contains_key q.asleep task))) q (begin q task nice slice)
begin_told q at task nice slice = by (get q.asleep task)
  where
    by : (o : Option Sleeper) → IsTold (own_change q (deed.Begin at task nice slice) (answer_of_begin (is_some o))) q (begin_sleeper q task nice slice o)
    by None = alike q
    by (Some s) = record { tasks = record { runnable = refl; running = refl }; base = λ none. refl; shift = refl }
