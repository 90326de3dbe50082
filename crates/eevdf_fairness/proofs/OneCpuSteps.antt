-- Turns, leavings and rebases of one CPU: whatever else is done, its runnable tasks are as these steps leave them.
use Rattle.std.proofs.Common.{◌≡◌, ℕ, ◌<◌, Bool, true, false, cond, List, [], ◌∷◌, ◌++◌, length, map, set, slice_set, Option, Some, None, refl, sym, ap, ◌∙◌, subst}
use Rattle.std.specs.Prelude.{◌==◌, is_some, Result, Ok, Err}
use Rattle.std.specs.{FinMap.get, Option.unwrap_or}
use Rattle.std.proofs.{Math.ListN.length-set, lemmas.List.get_or-set_same}
use Rattle.eevdf_queue.specs.{declared.entry.Entry.Entry, Sums.Tasks, State.State, State.Contents, State.empty_state, Leaving.carried_running, Leaving.leave, Leaving.without_entry, Leaving.stopped, Pick.after_pick, Tick.tick, Rebase.rebase}
use Rattle.eevdf_queue.specs.{Moves.sleeper_of, Moves.with_runnable, Placing.placed_entry}
use Rattle.eevdf_ops.specs.{declared.deeds.Deed.Deed, declared.deeds.Answer.Answer, Machine.Machine, Machine.queue_at}
use Rattle.eevdf_ops.specs.declared.deeds.Deed.TheVariants.{Tick, Pick, Yield, Sleep, Doze, Wake, Pull, Renice, Begin, End, Set, Rebase}
use Rattle.eevdf_ops.specs.{OneQueue.one_tick, OneQueue.one_pick, OneQueue.one_yield, OneQueue.one_wake, OneQueue.one_renice, OneQueue.one_begin, OneQueue.one_set, OneQueue.one_rebase}
use Rattle.eevdf_ops.specs.{Parts.after_leaving, Parts.answer_of_sleep, Parts.answer_of_end, WholeEnd.ending, Transfers.pulled, Whole.at_two, Whole.whole, Whole.machine_after}
use Rattle.eevdf_ops.specs.WholePull.{load_of, offer, decision, with_task}
use Rattle.eevdf_ops.proofs.{LocalParts.whole-answer, MapCounts.equal, MachinePlaces.other_queue, MachinePlaces.each-set, Pulling.refusals, WholePlaces.length-whole}
use Rattle.eevdf_fairness.specs.{Turns.Turn, Turns.after_ticks, Turns.after_turn, Leavings.Step, Leavings.Takes, Leavings.Leaves, Leavings.Rebases, Leavings.after_steps, Leavings.HaveSameTimes}
use Rattle.eevdf_fairness.specs.OneCpuSteps.{Change, Picks, Ticks, Loses, Lowers, Gains, Yields, own_change, change_at, and_then, changes_at, after_ticks_of, leavings_last, changes_of}
use Rattle.eevdf_fairness.specs.OneCpuSteps.{StepsOfOneCpu, OneCpuStaysFair, OneCpuJoinKeepsFair}
use Rattle.eevdf_fairness.specs.{Leavings.IsStillFair, Leavings.LeavingsKeepFair, Joining.IsFairAfterJoin, Joining.JoinKeepsFair}
use Rattle.eevdf_fairness.proofs.{OwnDeeds.is_apart, LeavingLater.leaves_in_time, SameTimes.alike, SameTimes.of_same, SameTimes.then, SameTimes.ticked, SameTimes.picked, SameTimes.left, SameTimes.rebased_alike}
use Rattle.eevdf_fairness.proofs.LeavingDeeds.{sleep_leaves, sleep_stays, doze_leaves, doze_stays, left_by_sleep, end_leaves, end_stays, left_by_end}
use Rattle.eevdf_fairness.proofs.OwnChanges.{changed, changed_by, IsOfSteps, MayBeOfSteps, IsTold, told_step}
use Rattle.eevdf_fairness.proofs.OwnChanges.{tick_told, pick_told, yield_told, wake_told, renice_told, begin_told, set_told, rebase_told}

-- ---- changes, one after the other
abbrev pub all_changed : List Change → State → State
all_changed [] q = q
all_changed (change ∷ changes) q = all_changed changes (changed change q)

abbrev pub AreOfSteps : List Change → Type 0
AreOfSteps [] = Unit {0}
AreOfSteps (change ∷ changes) = IsOfSteps change × AreOfSteps changes

-- ---- the same runnable tasks
changed_alike : (change : Change) (q r : State) → HaveSameTimes q r → HaveSameTimes (changed change q) (changed change r)
changed_alike Picks q r same = picked q r same
changed_alike (Ticks ns) q r same = ticked q r ns same
changed_alike (Loses task) q r same = left q r task same
changed_alike Lowers q r same = rebased_alike q r same
changed_alike (Gains task) q r same = same
changed_alike Yields q r same = same

pub changed_by_alike : (o : Option Change) (q r : State) → HaveSameTimes q r → HaveSameTimes (changed_by o q) (changed_by o r)
changed_by_alike None q r same = same
changed_by_alike (Some change) q r same = changed_alike change q r same

all_changed_alike : (changes : List Change) (q r : State) → HaveSameTimes q r → HaveSameTimes (all_changed changes q) (all_changed changes r)
all_changed_alike [] q r same = same
all_changed_alike (change ∷ changes) q r same = all_changed_alike changes (changed change q) (changed change r) (changed_alike change q r same)

-- ---- ticks while somebody runs
abbrev MayRun : Option Change → State → Type 0
MayRun (Some (Ticks ns)) q = is_some q.running ≡ true
MayRun change q = Unit {0}

-- so it is at each tick among changes
abbrev AreRun : List Change → State → Type 0
AreRun [] q = Unit {0}
AreRun (change ∷ changes) q = MayRun (Some change) q × AreRun changes (changed change q)

may_run : (change : Change) (q r : State) → HaveSameTimes q r → MayRun (Some change) q → MayRun (Some change) r
may_run Picks q r same runs = tt
may_run (Ticks ns) q r same runs = ap (λ (o : Option ℕ). is_some o) (sym same.tasks.running) ∙ runs
may_run (Loses task) q r same runs = tt
may_run Lowers q r same runs = tt
may_run (Gains task) q r same runs = tt
may_run Yields q r same runs = tt

run_alike : (changes : List Change) (q r : State) → HaveSameTimes q r → AreRun changes q → AreRun changes r
run_alike [] q r same run = tt
run_alike (change ∷ changes) q r same run =
    (may_run change q r same run.0, run_alike changes (changed change q) (changed change r) (changed_alike change q r same) run.1)

told_runs : (o : Option Change) (q r : State) → IsTold o q r → MayRun o q
told_runs None q r told = tt
told_runs (Some Picks) q r told = tt
told_runs (Some (Ticks ns)) q r told = told.0
told_runs (Some (Loses task)) q r told = tt
told_runs (Some Lowers) q r told = tt
told_runs (Some (Gains task)) q r told = tt
told_runs (Some Yields) q r told = tt

and_then_run : (o : Option Change) (rest : List Change) (q : State) → MayRun o q → AreRun rest (changed_by o q) → AreRun (and_then o rest) q
and_then_run None rest q runs run = run
and_then_run (Some change) rest q runs run = (runs, run)

-- ---- leavings after ticks
ran_by : (q : State) (task : ℕ) (o : Option Entry) → is_some (without_entry q task o).running ≡ true → is_some q.running ≡ true
ran_by q task None runs = runs
ran_by q task (Some e) runs = stopped_by q.running runs
  where
    stopped_by : (o : Option ℕ) → is_some (stopped o task) ≡ true → is_some o ≡ true
    stopped_by None runs = cc
    stopped_by (Some t) runs = refl

after_ticks_run : (task : ℕ) (changes : List Change) (q : State) → AreRun changes (leave q task) → AreRun (after_ticks_of task changes) q
after_ticks_run task [] q run = (tt, tt)
after_ticks_run task (Ticks ns ∷ changes) q run = (
  ran_by q task (get q.runnable task) run.0,
  after_ticks_run task changes ((tick q ns).1) (run_alike changes ((tick (leave q task) ns).1) (leave ((tick q ns).1) task) (leaves_in_time q task ns run.0) run.1),
)
after_ticks_run task (Picks ∷ changes) q run = (tt, run)
after_ticks_run task (Loses other ∷ changes) q run = (tt, run)
after_ticks_run task (Lowers ∷ changes) q run = (tt, run)
after_ticks_run task (Gains other ∷ changes) q run = (tt, run)
after_ticks_run task (Yields ∷ changes) q run = (tt, run)

leavings_last_run : (changes : List Change) (q : State) → AreRun changes q → AreRun (leavings_last changes) q
leavings_last_run [] q run = tt
leavings_last_run (Ticks ns ∷ changes) q run = (run.0, leavings_last_run changes ((tick q ns).1) run.1)
leavings_last_run (Picks ∷ changes) q run = (tt, leavings_last_run changes (after_pick q) run.1)
leavings_last_run (Loses task ∷ changes) q run = after_ticks_run task (leavings_last changes) q (leavings_last_run changes (leave q task) run.1)
leavings_last_run (Lowers ∷ changes) q run = (tt, leavings_last_run changes (rebase q).1 run.1)
leavings_last_run (Gains task ∷ changes) q run = (tt, leavings_last_run changes q run.1)
leavings_last_run (Yields ∷ changes) q run = (tt, leavings_last_run changes q run.1)

after_ticks_alike : (task : ℕ) (changes : List Change) (q : State) → AreRun changes (leave q task)
    → HaveSameTimes (all_changed changes (leave q task)) (all_changed (after_ticks_of task changes) q)
after_ticks_alike task [] q run = alike (leave q task)
after_ticks_alike task (Ticks ns ∷ changes) q run =
    let later : HaveSameTimes ((tick (leave q task) ns).1) (leave ((tick q ns).1) task) = leaves_in_time q task ns run.0 in
    then _ _ _ (all_changed_alike changes ((tick (leave q task) ns).1) (leave ((tick q ns).1) task) later)
    (after_ticks_alike task changes ((tick q ns).1) (run_alike changes ((tick (leave q task) ns).1) (leave ((tick q ns).1) task) later run.1))
after_ticks_alike task (Picks ∷ changes) q run = alike (all_changed changes (after_pick (leave q task)))
after_ticks_alike task (Loses other ∷ changes) q run = alike (all_changed changes (leave (leave q task) other))
after_ticks_alike task (Lowers ∷ changes) q run = alike (all_changed changes (rebase (leave q task)).1)
after_ticks_alike task (Gains other ∷ changes) q run = alike (all_changed changes (leave q task))
after_ticks_alike task (Yields ∷ changes) q run = alike (all_changed changes (leave q task))

leavings_last_alike : (changes : List Change) (q : State) → AreRun changes q → HaveSameTimes (all_changed changes q) (all_changed (leavings_last changes) q)
leavings_last_alike [] q run = alike q
leavings_last_alike (Ticks ns ∷ changes) q run = leavings_last_alike changes ((tick q ns).1) run.1
leavings_last_alike (Picks ∷ changes) q run = leavings_last_alike changes (after_pick q) run.1
leavings_last_alike (Loses task ∷ changes) q run =
    then _ _ _ (leavings_last_alike changes (leave q task) run.1)
    (after_ticks_alike task (leavings_last changes) q (leavings_last_run changes (leave q task) run.1))
leavings_last_alike (Lowers ∷ changes) q run = leavings_last_alike changes (rebase q).1 run.1
leavings_last_alike (Gains task ∷ changes) q run = leavings_last_alike changes q run.1
leavings_last_alike (Yields ∷ changes) q run = leavings_last_alike changes q run.1

before_ticks_of : (task : ℕ) (changes : List Change) → AreOfSteps (after_ticks_of task changes) → AreOfSteps changes
before_ticks_of task [] these = tt
before_ticks_of task (Ticks ns ∷ changes) these = (tt, before_ticks_of task changes these.1)
before_ticks_of task (Picks ∷ changes) these = these.1
before_ticks_of task (Loses other ∷ changes) these = these.1
before_ticks_of task (Lowers ∷ changes) these = these.1
before_ticks_of task (Gains other ∷ changes) these = these.1
before_ticks_of task (Yields ∷ changes) these = these.1

leavings_not_last : (changes : List Change) → AreOfSteps (leavings_last changes) → AreOfSteps changes
leavings_not_last [] these = tt
leavings_not_last (Ticks ns ∷ changes) these = (tt, leavings_not_last changes these.1)
leavings_not_last (Picks ∷ changes) these = (tt, leavings_not_last changes these.1)
leavings_not_last (Loses task ∷ changes) these = (tt, leavings_not_last changes (before_ticks_of task (leavings_last changes) these))
leavings_not_last (Lowers ∷ changes) these = (tt, leavings_not_last changes these.1)
leavings_not_last (Gains task ∷ changes) these = absurd these.0
leavings_not_last (Yields ∷ changes) these = absurd these.0

-- ---- what one deed changes
module _ (homes : List ℕ) (m : Machine) (cpu : ℕ) (h : cpu < length m) where
  -- one on the queue of its CPU alone
  own_by : (at : ℕ) (change : State → Answer → Option Change) (step : State → Answer × State) → ((q : State) → IsTold (change q (step q).0) q (step q).1)
      → (b : Bool) → (at == cpu) ≡ b
      → IsTold (cond b (change (queue_at m cpu) (step (queue_at m at)).0) None) (queue_at m cpu) (queue_at (slice_set m at (step (queue_at m at)).1) cpu)
  own_by at change step told true is =
      subst (λ (a : ℕ). IsTold (change (queue_at m cpu) (step (queue_at m a)).0) (queue_at m cpu) (queue_at (slice_set m a (step (queue_at m a)).1) cpu))
      (sym (equal at cpu is))
      (subst (IsTold (change (queue_at m cpu) (step (queue_at m cpu)).0) (queue_at m cpu)) (sym (get_or-set_same m cpu _ empty_state h)) (told (queue_at m cpu)))
  own_by at change step told false is = of_same _ _ (other_queue m at cpu _ (is_apart at cpu is))

  -- ---- sleeps, dozes and ends
  sleep_told : (q r : State) (at task : ℕ) (o : Option Contents) → carried_running q task ≡ o → HaveSameTimes r (after_leaving o q)
      → IsTold (own_change q (Sleep at task) (answer_of_sleep o)) q r
  sleep_told q r at task None is same = same
  sleep_told q r at task (Some p) is same = then _ _ _ same (of_same _ _ (left_by_sleep q task p.lag (Some p) is refl))

  doze_told : (q r : State) (at task : ℕ) (o : Option Contents) → carried_running q task ≡ o → HaveSameTimes r (after_leaving o q)
      → IsTold (own_change q (Doze at task) (answer_of_sleep o)) q r
  doze_told q r at task None is same = same
  doze_told q r at task (Some p) is same = then _ _ _ same (of_same _ _ (left_by_sleep q task p.lag (Some p) is refl))

  end_told : (q r : State) (at task : ℕ) (o : Option Contents) → ending q task ≡ o → HaveSameTimes r (after_leaving o q)
      → IsTold (own_change q (End at task) (answer_of_end o)) q r
  end_told q r at task None is same = same
  end_told q r at task (Some p) is same = then _ _ _ same (of_same _ _ (left_by_end q task (Some p) is refl))

  -- a deed by which a task leaves its CPU
  leaves_by : (deed : ℕ → Deed) (change : Answer → Option Change) (answer : Answer) (at : ℕ) (b : Bool) → (at == cpu) ≡ b
      → (whole homes (deed cpu) m).0 ≡ answer → IsTold (change answer) (queue_at m cpu) (queue_at (whole homes (deed cpu) m).1 cpu)
      → ((cpu ≡ at → ⊥) → HaveSameTimes (queue_at (whole homes (deed at) m).1 cpu) (queue_at m cpu))
      → IsTold (cond b (change (whole homes (deed at) m).0) None) (queue_at m cpu) (queue_at (whole homes (deed at) m).1 cpu)
  leaves_by deed change answer at true is answers told stays =
      subst (λ (a : ℕ). IsTold (change (whole homes (deed a) m).0) (queue_at m cpu) (queue_at (whole homes (deed a) m).1 cpu)) (sym (equal at cpu is))
      (subst (λ (a : Answer). IsTold (change a) (queue_at m cpu) (queue_at (whole homes (deed cpu) m).1 cpu)) (sym answers) told)
  leaves_by deed change answer at false is answers told stays = stays (is_apart at cpu is)

  -- ---- pulls
  -- what is refused changes neither queue
  both_stay : (at source : ℕ) → queue_at (set (set m at (queue_at m at)) source (queue_at m source)) cpu ≡ queue_at m cpu
  both_stay at source =
      each-set (λ i q. q ≡ queue_at m i) (set m at (queue_at m at)) source (queue_at m source) refl
      (each-set (λ i q. q ≡ queue_at m i) m at (queue_at m at) refl (λ i. refl)) cpu

  still_runs : (q : State) (task : ℕ) (o : Option Entry) → (unwrap_or (with_runnable q task o) q).running ≡ q.running
  still_runs q task None = refl
  still_runs q task (Some e) = refl

  taken_by : (at source : ℕ) (p : Contents) (b c : Bool) → (source == cpu) ≡ b → (at == cpu) ≡ c
      → IsTold (cond b (Some (Loses p.task)) (cond c (Some (Gains p.task)) None)) (queue_at m cpu)
      (queue_at (set (set m at (with_task (queue_at m at) p)) source (leave (queue_at m source) p.task)) cpu)
  taken_by at source p true c at_source is =
      subst (λ (i : ℕ). HaveSameTimes (queue_at (set (set m at (with_task (queue_at m at) p)) i (leave (queue_at m i) p.task)) cpu) (leave (queue_at m cpu) p.task))
      (sym (equal source cpu at_source))
      (of_same _ _ (get_or-set_same (set m at _) cpu _ empty_state (subst (λ (n : ℕ). cpu < n) (sym (length-set m at _)) h)))
  taken_by at source p false true at_source is =
      ap (λ (q : State). q.running) (other_queue (set m at _) source cpu _ (is_apart source cpu at_source))
      ∙ subst (λ (i : ℕ). (queue_at (set m i (with_task (queue_at m i) p)) cpu).running ≡ (queue_at m cpu).running) (sym (equal at cpu is))
      (ap (λ (q : State). q.running) (get_or-set_same m cpu _ empty_state h) ∙ still_runs (queue_at m cpu) p.task (placed_entry (queue_at m cpu) (sleeper_of p)))
  taken_by at source p false false at_source is =
      of_same _ _ (other_queue (set m at _) source cpu _ (is_apart source cpu at_source) ∙ other_queue m at cpu _ (is_apart at cpu is))

  refused_by : (r : State) (b : Bool) → HaveSameTimes r (queue_at m cpu) → IsTold (cond {A = Option Change} b None None) (queue_at m cpu) r
  refused_by r true same = same
  refused_by r false same = same

  pull_by : (at source : ℕ) (d : Result Contents Answer) → decision (queue_at m at) (load_of (queue_at m source)) (offer (queue_at m source)) ≡ d
      → IsTold (change_at cpu (queue_at m cpu) (Pull at source) (pulled d (queue_at m at) (queue_at m source)).0) (queue_at m cpu)
      (queue_at (at_two m at source (pulled d (queue_at m at) (queue_at m source))).1 cpu)
  pull_by at source (Err why) is =
      let r : State = queue_at (set (set m at (queue_at m at)) source (queue_at m source)) cpu in
      let same : HaveSameTimes r (queue_at m cpu) = of_same _ _ (both_stay at source) in
      refusals (λ (a : Answer). IsTold (change_at cpu (queue_at m cpu) (Pull at source) a) (queue_at m cpu) r) (queue_at m at) (load_of (queue_at m source)) (offer (queue_at m source))
      why is (refused_by r (at == cpu) same) (refused_by r (at == cpu) same) (refused_by r (at == cpu) same)
  pull_by at source (Ok p) is = taken_by at source p (source == cpu) (at == cpu) refl refl

  pub one_change : (d : Deed) → IsTold (change_at cpu (queue_at m cpu) d (whole homes d m).0) (queue_at m cpu) (queue_at (whole homes d m).1 cpu)
  one_change (Tick at ns) = own_by at (λ q a. own_change q (Tick at ns) a) (λ q. one_tick q ns) (λ q. tick_told q at ns) (at == cpu) refl
  one_change (Pick at) = own_by at (λ q a. own_change q (Pick at) a) one_pick (λ q. pick_told q at) (at == cpu) refl
  one_change (Yield at) = own_by at (λ q a. own_change q (Yield at) a) one_yield (λ q. yield_told q at) (at == cpu) refl
  one_change (Sleep at task) =
      leaves_by (λ (a : ℕ). Sleep a task) (own_change (queue_at m cpu) (Sleep at task)) (answer_of_sleep (carried_running (queue_at m cpu) task)) at (at == cpu) refl
      (whole-answer homes (Sleep cpu task) m) (sleep_told (queue_at m cpu) _ at task (carried_running (queue_at m cpu) task) refl (sleep_leaves homes m cpu task h))
      (sleep_stays homes m at task cpu)
  one_change (Doze at task) =
      leaves_by (λ (a : ℕ). Doze a task) (own_change (queue_at m cpu) (Doze at task)) (answer_of_sleep (carried_running (queue_at m cpu) task)) at (at == cpu) refl
      (whole-answer homes (Doze cpu task) m) (doze_told (queue_at m cpu) _ at task (carried_running (queue_at m cpu) task) refl (doze_leaves homes m cpu task h))
      (doze_stays homes m at task cpu)
  one_change (Wake at task sender) =
      own_by at (λ q a. own_change q (Wake at task sender) a) (λ q. one_wake q task) (λ q. wake_told q at task sender) (at == cpu) refl
  one_change (Pull at source) = pull_by at source (decision (queue_at m at) (load_of (queue_at m source)) (offer (queue_at m source))) refl
  one_change (Renice at task nice) =
      own_by at (λ q a. own_change q (Renice at task nice) a) (λ q. one_renice q task nice) (λ q. renice_told q at task nice) (at == cpu) refl
  one_change (Begin at task nice slice) =
      own_by at (λ q a. own_change q (Begin at task nice slice) a) (λ q. one_begin q task nice slice) (λ q. begin_told q at task nice slice) (at == cpu) refl
  one_change (End at task) =
      leaves_by (λ (a : ℕ). End a task) (own_change (queue_at m cpu) (End at task)) (answer_of_end (ending (queue_at m cpu) task)) at (at == cpu) refl
      (whole-answer homes (End cpu task) m) (end_told (queue_at m cpu) _ at task (ending (queue_at m cpu) task) refl (end_leaves homes m cpu task h))
      (end_stays homes m at task cpu)
  one_change (Set at task nice slice) =
      own_by at (λ q a. own_change q (Set at task nice slice) a) (λ q. one_set q task nice slice) (λ q. set_told q at task nice slice) (at == cpu) refl
  one_change (Rebase at) = own_by at (λ q a. own_change q (Rebase at) a) one_rebase (λ q. rebase_told q at) (at == cpu) refl

-- ---- all deeds
pub first_of : (o : Option Change) (rest : List Change) → AreOfSteps (and_then o rest) → MayBeOfSteps o
first_of None rest these = tt
first_of (Some change) rest these = these.0

pub rest_of : (o : Option Change) (rest : List Change) → AreOfSteps (and_then o rest) → AreOfSteps rest
rest_of None rest these = these
rest_of (Some change) rest these = these.1

and_then_changed : (o : Option Change) (rest : List Change) (q : State) → all_changed rest (changed_by o q) ≡ all_changed (and_then o rest) q
and_then_changed None rest q = refl
and_then_changed (Some change) rest q = refl

pub as_changed : (homes : List ℕ) (m : Machine) (cpu : ℕ) (deeds : List Deed) (q : State) → cpu < length m → HaveSameTimes (queue_at m cpu) q
    → AreOfSteps (changes_at homes cpu m deeds) → HaveSameTimes (queue_at (machine_after homes m deeds) cpu) (all_changed (changes_at homes cpu m deeds) q)
as_changed homes m cpu [] q h same these = same
as_changed homes m cpu (d ∷ ds) q h same these =
    let change : Option Change = change_at cpu (queue_at m cpu) d (whole homes d m).0 in
    let rest : List Change = changes_at homes cpu (whole homes d m).1 ds in
    subst (HaveSameTimes (queue_at (machine_after homes (whole homes d m).1 ds) cpu)) (and_then_changed change rest q)
    (as_changed homes (whole homes d m).1 cpu ds (changed_by change q) (subst (λ (n : ℕ). cpu < n) (sym (length-whole homes d m)) h)
    (then _ _ _ (told_step change _ _ (one_change homes m cpu h d) (first_of change rest these)) (changed_by_alike change (queue_at m cpu) q same))
    (rest_of change rest these))

-- somebody runs at each tick that is one of them
are_run : (homes : List ℕ) (m : Machine) (cpu : ℕ) (deeds : List Deed) (q : State) → cpu < length m → HaveSameTimes (queue_at m cpu) q
    → AreOfSteps (changes_at homes cpu m deeds) → AreRun (changes_at homes cpu m deeds) q
are_run homes m cpu [] q h same these = tt
are_run homes m cpu (d ∷ ds) q h same these =
    let change : Option Change = change_at cpu (queue_at m cpu) d (whole homes d m).0 in
    let rest : List Change = changes_at homes cpu (whole homes d m).1 ds in
    let told : IsTold change (queue_at m cpu) (queue_at (whole homes d m).1 cpu) = one_change homes m cpu h d in
    and_then_run change rest q (runs_too change (queue_at m cpu) q same (told_runs change (queue_at m cpu) (queue_at (whole homes d m).1 cpu) told))
    (are_run homes (whole homes d m).1 cpu ds (changed_by change q) (subst (λ (n : ℕ). cpu < n) (sym (length-whole homes d m)) h)
    (then _ _ _ (told_step change _ _ told (first_of change rest these)) (changed_by_alike change (queue_at m cpu) q same))
    (rest_of change rest these))
  where
    runs_too : (o : Option Change) (q r : State) → HaveSameTimes q r → MayRun o q → MayRun o r
    runs_too None q r same runs = tt
    runs_too (Some change) q r same runs = may_run change q r same runs

-- ---- steps
ticks_changed : (turn : Turn) (more : List Change) (q : State) → all_changed (map Ticks turn ++ more) q ≡ all_changed more (after_ticks q turn)
ticks_changed [] more q = refl
ticks_changed (ns ∷ turn) more q = ticks_changed turn more ((tick q ns).1)

pub steps_changed : (steps : List Step) (q : State) → all_changed (changes_of steps) q ≡ after_steps q steps
steps_changed [] q = refl
steps_changed (Takes turn ∷ steps) q = ticks_changed turn (changes_of steps) (after_pick q) ∙ steps_changed steps (after_turn q turn)
steps_changed (Leaves task ∷ steps) q = steps_changed steps (leave q task)
steps_changed (Rebases ∷ steps) q = steps_changed steps (rebase q).1

ticks_of_steps : (turn : Turn) (more : List Change) → AreOfSteps more → AreOfSteps (map Ticks turn ++ more)
ticks_of_steps [] more these = these
ticks_of_steps (ns ∷ turn) more these = (tt, ticks_of_steps turn more these)

pub are_of_steps : (steps : List Step) → AreOfSteps (changes_of steps)
are_of_steps [] = tt
are_of_steps (Takes turn ∷ steps) = (tt, ticks_of_steps turn (changes_of steps) (are_of_steps steps))
are_of_steps (Leaves task ∷ steps) = (tt, are_of_steps steps)
are_of_steps (Rebases ∷ steps) = (tt, are_of_steps steps)

pub steps_of_one_cpu : StepsOfOneCpu
steps_of_one_cpu homes m cpu deeds steps h only =
    let changes : List Change = changes_at homes cpu m deeds in
    let these : AreOfSteps changes = leavings_not_last changes (subst AreOfSteps (sym only) (are_of_steps steps)) in
    (then _ (all_changed changes (queue_at m cpu)) _ (as_changed homes m cpu deeds (queue_at m cpu) h (alike (queue_at m cpu)) these)
    (then _ (all_changed (leavings_last changes) (queue_at m cpu)) _
    (leavings_last_alike changes (queue_at m cpu) (are_run homes m cpu deeds (queue_at m cpu) h (alike (queue_at m cpu)) these))
    (of_same _ _ (ap (λ (cs : List Change). all_changed cs (queue_at m cpu)) only ∙ steps_changed steps (queue_at m cpu))))).tasks

pub one_cpu_stays_fair : LeavingsKeepFair → OneCpuStaysFair
one_cpu_stays_fair fair homes m cpu deeds v ns steps h only fresh short =
    subst (λ (tasks : Tasks). (t : ℕ) (e : Entry) → get tasks t ≡ Some e → IsStillFair ns tasks e)
    (sym (steps_of_one_cpu homes m cpu deeds steps h only).runnable) (fair (queue_at m cpu) v ns steps fresh short)

pub one_cpu_join_keeps_fair : JoinKeepsFair → OneCpuJoinKeepsFair
one_cpu_join_keeps_fair keeps homes m n cpu earlier deeds v ns before steps task s h k first only fresh short more j =
    subst (λ (tasks : Tasks). (t : ℕ) (e : Entry) → (t ≡ task → ⊥) → get tasks t ≡ Some e
    → IsFairAfterJoin ns (queue_at (machine_after homes m earlier) cpu).runnable s tasks e)
    (sym (steps_of_one_cpu homes n cpu deeds steps k only).runnable)
    (keeps (queue_at m cpu) (queue_at (machine_after homes m earlier) cpu) (queue_at n cpu) v ns before steps task s fresh short more
    (steps_of_one_cpu homes m cpu earlier before h first).runnable j)
