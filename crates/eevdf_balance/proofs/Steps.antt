-- What each deed does to the runnable tasks of each CPU: the same stay, or one comes or goes, as its line tells.
use Rattle.std.proofs.Common.{◌≡◌, ℕ, true, List, set}
use Rattle.std.specs.Prelude.{ℤ, Option, Some, None, Result, Ok, Err}
use Rattle.std.specs.Option.{unwrap_or}
use Rattle.std.specs.FinMap.{get, remove, insert}
use Rattle.eevdf_queue.specs.{declared.entry.Entry.Entry, State.State, declared.sleeper.Sleeper.Sleeper, State.Contents, Sums.Tasks}
use Rattle.eevdf_queue.specs.{Doze.put_dozing, Moves.put_asleep, Moves.with_runnable, Moves.sleeper_of, Wake.wake_to, Wake.wake_sleeper, Wake.waking_entry, Placing.placed_entry}
use Rattle.eevdf_queue.specs.Leaving.{leave, without_entry, carried_running}
use Rattle.eevdf_ops.specs.{declared.deeds.Deed.Deed, declared.deeds.Answer.Answer}
use Rattle.eevdf_ops.specs.declared.deeds.Answer.TheVariants.{Woken, Awake, Range, NotRunning, NotHere, Pulled, Ended, Slept}
use Rattle.eevdf_ops.specs.declared.deeds.Deed.TheVariants.{Tick, Pick, Yield, Sleep, Doze, Wake, Pull, Renice, Begin, End, Set, Rebase}
use Rattle.eevdf_ops.specs.{Setup.home_of, Machine.Machine, Machine.queue_at, OneQueue.answer_of_wake, WholeEnd.ending, WholeSleep.slept}
use Rattle.eevdf_ops.specs.OneQueue.{one_tick, one_pick, one_yield, one_renice, one_begin, one_set, one_rebase}
use Rattle.eevdf_ops.specs.{LocalActs.slept_here, LocalActs.dozed_here, LocalActs.ended_here, Transfers.slept_away, Transfers.ended_away, Transfers.pulled}
use Rattle.eevdf_ops.specs.WholePull.{decision, load_of, offer, with_task}
use Rattle.eevdf_ops.specs.Whole.{at_cpu, at_two, whole}
use Rattle.eevdf_ops.proofs.{MapCounts.itself as same_number, MachinePlaces.each-set, WholeActs.sleep_by_home, WholeActs.doze_by_home, WholeActs.end_by_home}
use Rattle.eevdf_balance.specs.Crowds.{comes, goes}
use Rattle.eevdf_balance.proofs.Kept.{AreSame, itself, tick-same, pick-same, yield-same, renice-same, set-same, begin-same, rebase-same}

-- what holds of the runnable tasks of a CPU before and after a deed with its answer, where the same stay, where the line tells that one
-- goes, and where it tells that one comes
module _ (P : Deed → Answer → ℕ → Tasks → Tasks → Type 0) (kept : (d : Deed) (a : Answer) (k : ℕ) (m n : Tasks) → AreSame m n → P d a k m n)
    (went : (d : Deed) (a : Answer) (k : ℕ) (m : Tasks) (t : ℕ) → goes k d a ≡ true → P d a k m (remove m t))
    (came : (d : Deed) (a : Answer) (k : ℕ) (m : Tasks) (t : ℕ) (e : Entry) → comes k d a ≡ true → P d a k m (insert m t e)) where
  abbrev AreStepped : Deed → Machine → Answer × Machine → Type 0
  AreStepped d m step = (k : ℕ) → P d step.0 k (queue_at m k).runnable (queue_at step.1 k).runnable

  -- one queue is written, and two
  one : (d : Deed) (a : Answer) (m : Machine) (cpu : ℕ) (q : State) → P d a cpu (queue_at m cpu).runnable q.runnable → AreStepped d m (a, set m cpu q)
  one d a m cpu q here = each-set (λ k r. P d a k (queue_at m k).runnable r.runnable) m cpu q here (λ k. kept d a k (queue_at m k).runnable (queue_at m k).runnable (itself (queue_at m k).runnable))

  two : (d : Deed) (a : Answer) (m : Machine) (cpu other : ℕ) (q r : State) → P d a cpu (queue_at m cpu).runnable q.runnable → P d a other (queue_at m other).runnable r.runnable
      → AreStepped d m (a, set (set m cpu q) other r)
  two d a m cpu other q r here there = each-set (λ k s. P d a k (queue_at m k).runnable s.runnable) (set m cpu q) other r there (one d a m cpu q here)

  stays : (d : Deed) (a : Answer) (m : Machine) (cpu : ℕ) (q : State) → AreSame (queue_at m cpu).runnable q.runnable → AreStepped d m (a, set m cpu q)
  stays d a m cpu q h = one d a m cpu q (kept d a cpu (queue_at m cpu).runnable q.runnable h)

  none-moves : (d : Deed) (a : Answer) (m : Machine) (cpu other : ℕ) → AreStepped d m (a, set (set m cpu (queue_at m cpu)) other (queue_at m other))
  none-moves d a m cpu other =
      two d a m cpu other (queue_at m cpu) (queue_at m other) (kept d a cpu (queue_at m cpu).runnable (queue_at m cpu).runnable (itself (queue_at m cpu).runnable))
      (kept d a other (queue_at m other).runnable (queue_at m other).runnable (itself (queue_at m other).runnable))

  left_by : (d : Deed) (a : Answer) (k : ℕ) (q : State) (t : ℕ) (o : Option Entry) → goes k d a ≡ true → P d a k q.runnable (without_entry q t o).runnable
  left_by d a k q t None h = kept d a k q.runnable q.runnable (itself q.runnable)
  left_by d a k q t (Some e) h = went d a k q.runnable t h

  left : (d : Deed) (a : Answer) (k : ℕ) (q : State) (t : ℕ) → goes k d a ≡ true → P d a k q.runnable (leave q t).runnable
  left d a k q t h = left_by d a k q t (get q.runnable t) h

  joined_by : (d : Deed) (a : Answer) (k : ℕ) (q : State) (t : ℕ) (o : Option Entry) → comes k d a ≡ true → P d a k q.runnable (unwrap_or (with_runnable q t o) q).runnable
  joined_by d a k q t None h = kept d a k q.runnable q.runnable (itself q.runnable)
  joined_by d a k q t (Some e) h = came d a k q.runnable t e h

  slept-here : (cpu task : ℕ) (m : Machine) (o : Option Contents) → AreStepped (Sleep cpu task) m (at_cpu m cpu (slept_here o (queue_at m cpu)))
  slept-here cpu task m None = stays (Sleep cpu task) NotRunning m cpu (queue_at m cpu) (itself (queue_at m cpu).runnable)
  slept-here cpu task m (Some p) =
      one (Sleep cpu task) (slept p) m cpu (put_asleep (leave (queue_at m cpu) p.task) p) (left (Sleep cpu task) (slept p) cpu (queue_at m cpu) p.task (same_number cpu))

  dozed-here : (cpu task : ℕ) (m : Machine) (o : Option Contents) → AreStepped (Doze cpu task) m (at_cpu m cpu (dozed_here o (queue_at m cpu)))
  dozed-here cpu task m None = stays (Doze cpu task) NotRunning m cpu (queue_at m cpu) (itself (queue_at m cpu).runnable)
  dozed-here cpu task m (Some p) =
      one (Doze cpu task) (slept p) m cpu (put_dozing (leave (queue_at m cpu) p.task) p) (left (Doze cpu task) (slept p) cpu (queue_at m cpu) p.task (same_number cpu))

  -- a sleep away from the task's home, and a doze there
  slept-away : (d : Deed) (cpu home : ℕ) (m : Machine) (o : Option Contents) → ((lag : ℤ) → goes cpu d (Slept lag) ≡ true) → AreStepped d m (at_two m cpu home (slept_away o (queue_at m cpu) (queue_at m home)))
  slept-away d cpu home m None tells = none-moves d NotRunning m cpu home
  slept-away d cpu home m (Some p) tells =
      two d (slept p) m cpu home (leave (queue_at m cpu) p.task) (put_asleep (queue_at m home) p)
      (left d (slept p) cpu (queue_at m cpu) p.task (tells p.lag))
      (kept d (slept p) home (queue_at m home).runnable (queue_at m home).runnable (itself (queue_at m home).runnable))

  ended-here : (cpu task : ℕ) (m : Machine) (o : Option Contents) → AreStepped (End cpu task) m (at_cpu m cpu (ended_here o (queue_at m cpu)))
  ended-here cpu task m None = stays (End cpu task) NotHere m cpu (queue_at m cpu) (itself (queue_at m cpu).runnable)
  ended-here cpu task m (Some p) =
      one (End cpu task) Ended m cpu (put_asleep (leave (queue_at m cpu) p.task) p) (left (End cpu task) Ended cpu (queue_at m cpu) p.task (same_number cpu))

  ended-away : (cpu task home : ℕ) (m : Machine) (o : Option Contents) → AreStepped (End cpu task) m (at_two m cpu home (ended_away o (queue_at m cpu) (queue_at m home)))
  ended-away cpu task home m None = none-moves (End cpu task) NotHere m cpu home
  ended-away cpu task home m (Some p) =
      two (End cpu task) Ended m cpu home (leave (queue_at m cpu) p.task) (put_asleep (queue_at m home) p)
      (left (End cpu task) Ended cpu (queue_at m cpu) p.task (same_number cpu))
      (kept (End cpu task) Ended home (queue_at m home).runnable (queue_at m home).runnable (itself (queue_at m home).runnable))

  woken_to : (cpu task sender : ℕ) (m : Machine) (o : Option Entry) → AreStepped (Wake cpu task sender) m
      (at_cpu m cpu (answer_of_wake (wake_to (queue_at m cpu) task (with_runnable (queue_at m cpu) task o)).0, (wake_to (queue_at m cpu) task (with_runnable (queue_at m cpu) task o)).1))
  woken_to cpu task sender m None = stays (Wake cpu task sender) Range m cpu (queue_at m cpu) (itself (queue_at m cpu).runnable)
  woken_to cpu task sender m (Some e) =
      let q : State = queue_at m cpu in
      one (Wake cpu task sender) Woken m cpu (record q { runnable = insert q.runnable task e; asleep = remove q.asleep task; places = remove q.places task })
      (came (Wake cpu task sender) Woken cpu q.runnable task e (same_number cpu))

  woken : (cpu task sender : ℕ) (m : Machine) (o : Option Sleeper) → AreStepped (Wake cpu task sender) m
      (at_cpu m cpu (answer_of_wake (wake_sleeper (queue_at m cpu) task o).0, (wake_sleeper (queue_at m cpu) task o).1))
  woken cpu task sender m None = stays (Wake cpu task sender) Awake m cpu (queue_at m cpu) (itself (queue_at m cpu).runnable)
  woken cpu task sender m (Some s) = woken_to cpu task sender m (waking_entry (queue_at m cpu) s (get (queue_at m cpu).places task))

  pulled-by : (cpu source : ℕ) (m : Machine) (d : Result Contents Answer) → AreStepped (Pull cpu source) m (at_two m cpu source (pulled d (queue_at m cpu) (queue_at m source)))
  pulled-by cpu source m (Err refusal) = none-moves (Pull cpu source) refusal m cpu source
  pulled-by cpu source m (Ok p) =
      two (Pull cpu source) (Pulled p.task) m cpu source (with_task (queue_at m cpu) p) (leave (queue_at m source) p.task)
      (joined_by (Pull cpu source) (Pulled p.task) cpu (queue_at m cpu) p.task (placed_entry (queue_at m cpu) (sleeper_of p)) (same_number cpu))
      (left (Pull cpu source) (Pulled p.task) source (queue_at m source) p.task (same_number source))

  pub stepped : (homes : List ℕ) (deed : Deed) (m : Machine) (k : ℕ) → P deed (whole homes deed m).0 k (queue_at m k).runnable (queue_at (whole homes deed m).1 k).runnable
  stepped homes (Tick cpu ns) m = stays (Tick cpu ns) (one_tick (queue_at m cpu) ns).0 m cpu (one_tick (queue_at m cpu) ns).1 (tick-same (queue_at m cpu) ns)
  stepped homes (Pick cpu) m = stays (Pick cpu) (one_pick (queue_at m cpu)).0 m cpu (one_pick (queue_at m cpu)).1 (pick-same (queue_at m cpu))
  stepped homes (Yield cpu) m = stays (Yield cpu) (one_yield (queue_at m cpu)).0 m cpu (one_yield (queue_at m cpu)).1 (yield-same (queue_at m cpu))
  stepped homes (Sleep cpu task) m =
      sleep_by_home (λ r. AreStepped (Sleep cpu task) m r) homes cpu task m (λ e. slept-here cpu task m (carried_running (queue_at m cpu) task))
      (λ e. slept-away (Sleep cpu task) cpu (home_of homes task) m (carried_running (queue_at m cpu) task) (λ lag. same_number cpu))
  stepped homes (Doze cpu task) m =
      doze_by_home (λ r. AreStepped (Doze cpu task) m r) homes cpu task m (λ e. dozed-here cpu task m (carried_running (queue_at m cpu) task))
      (λ e. slept-away (Doze cpu task) cpu (home_of homes task) m (carried_running (queue_at m cpu) task) (λ lag. same_number cpu))
  stepped homes (Wake cpu task sender) m = woken cpu task sender m (get (queue_at m cpu).asleep task)
  stepped homes (Pull cpu source) m = pulled-by cpu source m (decision (queue_at m cpu) (load_of (queue_at m source)) (offer (queue_at m source)))
  stepped homes (Renice cpu task nice) m =
      stays (Renice cpu task nice) (one_renice (queue_at m cpu) task nice).0 m cpu (one_renice (queue_at m cpu) task nice).1 (renice-same (queue_at m cpu) task nice)
  stepped homes (Begin cpu task nice slice) m =
      stays (Begin cpu task nice slice) (one_begin (queue_at m cpu) task nice slice).0 m cpu (one_begin (queue_at m cpu) task nice slice).1 (begin-same (queue_at m cpu) task nice slice)
  stepped homes (End cpu task) m =
      end_by_home (λ r. AreStepped (End cpu task) m r) homes cpu task m (λ e. ended-here cpu task m (ending (queue_at m cpu) task))
      (λ e. ended-away cpu task (home_of homes task) m (ending (queue_at m cpu) task))
  stepped homes (Set cpu task nice slice) m =
      stays (Set cpu task nice slice) (one_set (queue_at m cpu) task nice slice).0 m cpu (one_set (queue_at m cpu) task nice slice).1 (set-same (queue_at m cpu) task nice slice)
  stepped homes (Rebase cpu) m = stays (Rebase cpu) (one_rebase (queue_at m cpu)).0 m cpu (one_rebase (queue_at m cpu)).1 (rebase-same (queue_at m cpu))
