-- A task sleeps at its home alone, on the machines that deeds leave and while the callers work.
use Rattle.std.proofs.Common.{◌≡◌, ℕ, Bool, true, false, cond, ◌||◌, List, [], ◌∷◌, set, refl, sym, ap, subst, ◌∙◌}
use Rattle.std.specs.Prelude.{◌==◌, Option, Some, None, Result, Ok, Err}
use Rattle.std.specs.{Option.unwrap_or, FinMap.contains_key, FinMap.get}
use Rattle.eevdf_queue.specs.{declared.entry.Entry.Entry, Wake.wake_sleeper, Wake.wake_to, Wake.waking_entry, Moves.put_asleep, Moves.sleeper_of, Moves.with_runnable}
use Rattle.eevdf_queue.specs.{declared.sleeper.Sleeper.Sleeper, Placing.placed_entry, State.State, State.Contents}
use Rattle.eevdf_queue.specs.Leaving.{carried_running, leave, without_entry}
use Rattle.eevdf_ops.specs.{declared.deeds.Answer.Answer, declared.deeds.Deed.Deed, declared.deeds.Line.Line}
use Rattle.eevdf_ops.specs.{Histories.machine_told, Machine.Machine, Machine.queue_at, Programs.deeds_of, Setup.home_of}
use Rattle.eevdf_ops.specs.{LocalActs.dozed_here, LocalActs.slept_here, Transfers.pulled, Transfers.slept_away, Transfers.ended_away, WholeEnd.ending, Whole.at_two, Whole.machine_after, Whole.whole}
use Rattle.eevdf_ops.proofs.WholeActs.{sleep_by_home, doze_by_home, end_by_home}
use Rattle.eevdf_ops.specs.declared.deeds.Deed.TheVariants.{Sleep, Doze, Wake, Pull, End}
use Rattle.eevdf_ops.specs.{Origins.decider, Origins.origin_of}
use Rattle.eevdf_ops.specs.Parts.{after_leaving, giver, only_at}
use Rattle.eevdf_ops.specs.WholePull.{pull_decision, with_task}
use Rattle.eevdf_ops.proofs.{Carried.running-carries, Carried.ending-carries, MachinePlaces.SleepsAtHome, MachinePlaces.each-set}
use Rattle.eevdf_ops.proofs.MapCounts.{contains-insert, contains-removed, equal}
use Rattle.eevdf_ops.proofs.{Origins.operation_in, QueuePlaces.own-same, QueuePlaces.owed}
use Rattle.eevdf_steps.specs.{Counters.Counters, Counters.holder, Counters.holds, Plan.Plan, Plan.callers, Work.Work, Serial.IsSerial, Serial.begun_by}
use Rattle.eevdf_steps.specs.UnderWay.{UnderWay, leaves, queue_seen}
use Rattle.eevdf_steps.proofs.{Ready.least_found, SerialSteps.free_queue}

-- each sleeping task of a machine is at its home
abbrev pub AllAtHome : List ℕ → Machine → Type 0
AllAtHome homes m = (cpu : ℕ) → SleepsAtHome homes cpu (queue_at m cpu)

-- nobody sleeps in a queue who didn't in another
abbrev IsNoMore : State → State → Type 0
IsNoMore q r = (task : ℕ) → contains_key r.asleep task ≡ true → contains_key q.asleep task ≡ true

still : (homes : List ℕ) (cpu : ℕ) (q r : State) → IsNoMore q r → SleepsAtHome homes cpu q → SleepsAtHome homes cpu r
still homes cpu q r less at_home task a = at_home task (less task a)

wake_to_less : (q : State) (t : ℕ) (o : Option Entry) → IsNoMore q (wake_to q t (with_runnable q t o)).1
wake_to_less q t None = λ task is. is
wake_to_less q t (Some e) = λ task is. contains-removed q.asleep t task is

wake_sleeper_less : (q : State) (t : ℕ) (o : Option Sleeper) → IsNoMore q (wake_sleeper q t o).1
wake_sleeper_less q t None = λ task is. is
wake_sleeper_less q t (Some s) = wake_to_less q t (waking_entry q s (get q.places t))

leave_less : (q : State) (t : ℕ) (o : Option Entry) → IsNoMore q (without_entry q t o)
leave_less q t None = λ task is. is
leave_less q t (Some e) = λ task is. is

joined_less : (q : State) (t : ℕ) (o : Option Entry) → IsNoMore q (unwrap_or (with_runnable q t o) q)
joined_less q t None = λ task is. is
joined_less q t (Some e) = λ task is. is

fallen : (homes : List ℕ) (cpu task : ℕ) (b c : Bool) → (b ≡ true → home_of homes task ≡ cpu) → (c ≡ true → home_of homes task ≡ cpu) → (b || c) ≡ true → home_of homes task ≡ cpu
fallen homes cpu task true c f g e = f refl
fallen homes cpu task false c f g e = g e

falls_at_home : (homes : List ℕ) (cpu : ℕ) (q : State) (p : Contents) → home_of homes p.task ≡ cpu → SleepsAtHome homes cpu q → SleepsAtHome homes cpu (put_asleep q p)
falls_at_home homes cpu q p home at_home task a =
    fallen homes cpu task (task == p.task) (contains_key q.asleep task) (λ e. ap (home_of homes) (equal task p.task e) ∙ home) (at_home task)
    (sym (contains-insert q.asleep p.task task (sleeper_of p)) ∙ a)

-- nor where a task left that was runnable
left_less : (q : State) (b : Bool) (o : Option Contents) → IsNoMore q (cond b (after_leaving o q) q)
left_less q false o = λ task is. is
left_less q true None = λ task is. is
left_less q true (Some p) = leave_less q p.task (get q.runnable p.task)

module _ (homes : List ℕ) where
  set_at_home : (m : Machine) (c : ℕ) (q : State) → SleepsAtHome homes c q → AllAtHome homes m → AllAtHome homes (set m c q)
  set_at_home m c q here all = each-set (SleepsAtHome homes) m c q here all

  less_at_home : (m : Machine) (c : ℕ) (r : State) → IsNoMore (queue_at m c) r → AllAtHome homes m → AllAtHome homes (set m c r)
  less_at_home m c r less all = set_at_home m c r (still homes c (queue_at m c) r less (all c)) all

  here_at_home : (cpu task : ℕ) (q : State) (o : Option Contents) → ((p : Contents) → o ≡ Some p → p.task ≡ task) → home_of homes task ≡ cpu → SleepsAtHome homes cpu q → SleepsAtHome homes cpu (slept_here o q).1
  here_at_home cpu task q None of home here = here
  here_at_home cpu task q (Some p) of home here =
      falls_at_home homes cpu (leave q p.task) p (ap (home_of homes) (of p refl) ∙ home) (still homes cpu q (leave q p.task) (leave_less q p.task _) here)

  dozed_at_home : (cpu task : ℕ) (q : State) (o : Option Contents) → ((p : Contents) → o ≡ Some p → p.task ≡ task) → home_of homes task ≡ cpu → SleepsAtHome homes cpu q → SleepsAtHome homes cpu (dozed_here o q).1
  dozed_at_home cpu task q None of home here = here
  dozed_at_home cpu task q (Some p) of home here =
      falls_at_home homes cpu (leave q p.task) (owed p) (ap (home_of homes) (of p refl) ∙ home) (still homes cpu q (leave q p.task) (leave_less q p.task _) here)

  -- two queues, each with the sleepers of its own
  abbrev BothAtHome : ℕ → ℕ → State × State → Type 0
  BothAtHome cpu other qs = SleepsAtHome homes cpu qs.0 × SleepsAtHome homes other qs.1

  away_at_home : (cpu task : ℕ) (q r : State) (o : Option Contents) → ((p : Contents) → o ≡ Some p → p.task ≡ task) → BothAtHome cpu (home_of homes task) (q, r)
      → BothAtHome cpu (home_of homes task) (slept_away o q r).1
  away_at_home cpu task q r None of both = both
  away_at_home cpu task q r (Some p) of both = (
    still homes cpu q (leave q p.task) (leave_less q p.task _) both.0,
    falls_at_home homes (home_of homes task) r p (ap (home_of homes) (of p refl)) both.1,
  )

  pulled_at_home : (cpu source : ℕ) (q r : State) (d : Result Contents Answer) → BothAtHome cpu source (q, r) → BothAtHome cpu source (pulled d q r).1
  pulled_at_home cpu source q r (Err refusal) both = both
  pulled_at_home cpu source q r (Ok p) both = (
    still homes cpu q (with_task q p) (joined_less q p.task (placed_entry q (sleeper_of p))) both.0,
    still homes source r (leave r p.task) (leave_less r p.task _) both.1,
  )

  two_at_home : (m : Machine) (cpu other : ℕ) (step : Answer × (State × State)) → BothAtHome cpu other step.1 → AllAtHome homes m → AllAtHome homes (at_two m cpu other step).1
  two_at_home m cpu other step both all = set_at_home (set m cpu step.1.0) other step.1.1 both.1 (set_at_home m cpu step.1.0 both.0 all)

  whole_at_home : (deed : Deed) (m : Machine) → AllAtHome homes m → AllAtHome homes (whole homes deed m).1
  whole_at_home (Sleep cpu task) m all =
      let o : Option Contents = carried_running (queue_at m cpu) task in
      let of : (p : Contents) → o ≡ Some p → p.task ≡ task = λ p e. (running-carries (queue_at m cpu) task p e).of_task in
      sleep_by_home (λ (r : Answer × Machine). AllAtHome homes r.1) homes cpu task m
      (λ home. set_at_home m cpu _ (here_at_home cpu task (queue_at m cpu) o of home (all cpu)) all)
      (λ apart. two_at_home m cpu (home_of homes task) (slept_away o (queue_at m cpu) (queue_at m (home_of homes task))) (away_at_home cpu task (queue_at m cpu) (queue_at m (home_of homes task)) o of (all cpu, all (home_of homes task))) all)
  whole_at_home (Doze cpu task) m all =
      let o : Option Contents = carried_running (queue_at m cpu) task in
      let of : (p : Contents) → o ≡ Some p → p.task ≡ task = λ p e. (running-carries (queue_at m cpu) task p e).of_task in
      doze_by_home (λ (r : Answer × Machine). AllAtHome homes r.1) homes cpu task m
      (λ home. set_at_home m cpu _ (dozed_at_home cpu task (queue_at m cpu) o of home (all cpu)) all)
      (λ apart. two_at_home m cpu (home_of homes task) (slept_away o (queue_at m cpu) (queue_at m (home_of homes task))) (away_at_home cpu task (queue_at m cpu) (queue_at m (home_of homes task)) o of (all cpu, all (home_of homes task))) all)
  whole_at_home (End cpu task) m all =
      let q : State = queue_at m cpu in
      let r : State = queue_at m (home_of homes task) in
      let o : Option Contents = ending q task in
      let of : (p : Contents) → o ≡ Some p → p.task ≡ task = λ p e. (ending-carries q task p e).of_task in
      end_by_home (λ (r : Answer × Machine). AllAtHome homes r.1) homes cpu task m
      (λ home. set_at_home m cpu _ (here_at_home cpu task q o of home (all cpu)) all)
      (λ apart. two_at_home m cpu (home_of homes task) (ended_away o q r) (away_at_home cpu task q r o of (all cpu, all (home_of homes task))) all)
  whole_at_home (Wake cpu task sender) m all = less_at_home m cpu _ (wake_sleeper_less (queue_at m cpu) task _) all
  whole_at_home (Pull cpu source) m all =
      two_at_home m cpu source (pulled (pull_decision m cpu source) (queue_at m cpu) (queue_at m source)) (pulled_at_home cpu source (queue_at m cpu) (queue_at m source) (pull_decision m cpu source) (all cpu, all source)) all
  whole_at_home d m all = less_at_home m (decider d) _ (own-same (operation_in (origin_of d)) (queue_at m (decider d))).asleep all

  after_at_home : (ds : List Deed) (m : Machine) → AllAtHome homes m → AllAtHome homes (machine_after homes m ds)
  after_at_home [] m all = all
  after_at_home (d ∷ ds) m all = after_at_home ds (whole homes d m).1 (whole_at_home d m all)

  begun_at_home : (m : Machine) (u : UnderWay) (cpu : ℕ) (b : Bool) → AllAtHome homes m
      → SleepsAtHome homes cpu (cond b (queue_at (whole homes u.deed m).1 cpu) (only_at (giver u.deed) cpu (after_leaving (leaves homes m u.deed)) (queue_at m cpu)))
  begun_at_home m u cpu true all = whole_at_home u.deed m all cpu
  begun_at_home m u cpu false all =
      still homes cpu (queue_at m cpu) (only_at (giver u.deed) cpu (after_leaving (leaves homes m u.deed)) (queue_at m cpu))
      (left_less (queue_at m cpu) (cpu == giver u.deed) (leaves homes m u.deed)) (all cpu)

  seen_at_home : (m : Machine) (o : Option UnderWay) (cpu : ℕ) → AllAtHome homes m → SleepsAtHome homes cpu (queue_seen homes m o cpu)
  seen_at_home m None cpu all = all cpu
  seen_at_home m (Some u) cpu all = begun_at_home m u cpu u.done all

-- a queue whose lock is held, and one whose lock is free
at_home_by : (plan : Plan) (start : Machine) (counters : Counters) (w : Work) (lines : List Line) (cpu : ℕ) (o : Option ℕ) → holder plan counters cpu ≡ o
    → IsSerial plan start counters w lines → AllAtHome plan.homes (machine_told plan.homes start lines) → SleepsAtHome plan.homes cpu (queue_at w.machine cpu)
at_home_by plan start counters w lines cpu None e serial all =
    subst (SleepsAtHome plan.homes cpu) (sym (free_queue plan start counters w lines cpu serial e)) (all cpu)
at_home_by plan start counters w lines cpu (Some p) e serial all =
    subst (SleepsAtHome plan.homes cpu)
    (sym (serial.seen.held cpu p (least_found (holds plan counters cpu) 0 (callers plan) p e).passes))
    (seen_at_home plan.homes (machine_told plan.homes start lines) (begun_by plan counters p) cpu all)

pub callers_at_home : (plan : Plan) (counters : Counters) (w : Work) (lines : List Line) → IsSerial plan plan.start counters w lines → AllAtHome plan.homes plan.start
    → AllAtHome plan.homes w.machine
callers_at_home plan counters w lines serial all cpu =
    at_home_by plan plan.start counters w lines cpu (holder plan counters cpu) refl serial (after_at_home plan.homes (deeds_of lines) plan.start all)
