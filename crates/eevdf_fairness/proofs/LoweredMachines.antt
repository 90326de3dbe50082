-- A lowered machine does each deed alike.
use Rattle.std.proofs.Common.{◌≡◌, ℕ, ◌==◌, Bool, true, false, cond, List, Option, Some, None, refl, sym, ap, ◌∙◌, subst, inl, inr, arith}
use Rattle.std.specs.Prelude.{ℤ, ◌+ℤ◌, ◌-ℤ◌, Ok, Err, is_some, nat_lt, ◌+◌, unwrap_or, option_and_then}
use Rattle.std.specs.{Option.option_map, Ordering.nat_cmp, FinMap.FinMap, FinMap.contains_key, FinMap.insert}
use Rattle.std.proofs.lemmas.Int.{ints}
use Rattle.eevdf_weight.specs.Weight.{weight_of}
use Rattle.eevdf_queue.specs.{declared.entry.Entry.Entry, declared.sleeper.Sleeper.Sleeper, State.State, State.Contents, Candidate.is_running, Candidate.candidate_of}
use Rattle.eevdf_queue.specs.{Doze.dozing, Doze.put_dozing, Moves.put_asleep, Moves.sleeper_of, Moves.with_runnable, Placing.placed_entry, Placing.can_place, Placing.put, Attributes.without_lag}
use Rattle.eevdf_queue.specs.Leaving.{carried, carried_running, leave}
use Rattle.eevdf_queue.specs.LoweredQueues.{IsLower, AnswerAlike, JoinAlike, LoweredQueueAnswersAlike, lowered_contents}
use Rattle.eevdf_queue.specs.LoweredQueues as queues
use Rattle.eevdf_queue.specs.declared.answers.TickAnswer.TheVariants as ticks
use Rattle.eevdf_queue.specs.declared.answers.YieldAnswer.TheVariants as yields
use Rattle.eevdf_queue.specs.declared.answers.WakeAnswer.TheVariants as wakes
use Rattle.eevdf_queue.specs.declared.answers.ReniceAnswer.TheVariants as renices
use Rattle.eevdf_queue.specs.declared.answers.SetAnswer.TheVariants as sets
use Rattle.eevdf_ops.specs.{declared.deeds.Deed.Deed, declared.deeds.Answer.Answer, declared.deeds.Answer.TheVariants.Range, declared.deeds.Answer.TheVariants.Balanced}
use Rattle.eevdf_ops.specs.declared.deeds.Deed.TheVariants.{Tick, Pick, Yield, Sleep, Doze, Wake, Pull, Renice, Begin, End, Set, Rebase}
use Rattle.eevdf_ops.specs.declared.acts.Act.{Act}
use Rattle.eevdf_ops.specs.declared.acts.Act.TheVariants as act
use Rattle.eevdf_ops.specs.declared.acts.LocalAct.TheVariants as local
use Rattle.eevdf_ops.specs.declared.acts.Transfer.TheVariants as transfer
use Rattle.eevdf_ops.specs.OneQueue.{answer_of_tick, answer_of_pick, answer_of_yield, answer_of_wake, answer_of_renice, answer_of_set, answer_of_begin}
use Rattle.eevdf_ops.specs.{Setup.home_of, Machine.Machine, Machine.queue_at, LocalActs.slept_here, LocalActs.dozed_here, LocalActs.ended_here}
use Rattle.eevdf_ops.specs.{Transfers.slept_away, Transfers.ended_away, Transfers.pulled, WholeEnd.ending, Whole.at_cpu, Whole.at_two, Whole.done_at, Whole.whole}
use Rattle.eevdf_ops.specs.WholePull.{offer, load_of, decision, with_task}
use Rattle.eevdf_fairness.specs.LoweredMachines.{IsLowerMachine, AreAlike, is_range, is_rebase, LoweredMachineAnswersAlike}
use Rattle.eevdf_fairness.proofs.{LoweredAgain.machine_set, RangeStays.tick_stays, RangeStays.yield_stays, RangeStays.wake_stays, RangeStays.renice_stays, RangeStays.set_stays}

-- an act on one queue, and on two
abbrev OneAlike : ℤ → Answer × State → Answer × State → Type 0
OneAlike by x y = is_range x.0 ≡ is_range y.0 → (x.0 ≡ y.0) × IsLower by x.1 y.1

abbrev TwoAlike : ℤ → ℤ → Answer × (State × State) → Answer × (State × State) → Type 0
TwoAlike a b x y = is_range x.0 ≡ is_range y.0 → (x.0 ≡ y.0) × (IsLower a x.1.0 y.1.0 × IsLower b x.1.1 y.1.1)

-- an answer of a queue, told as one of a machine; what is out of range leaves the queue
record IsTold {A : Type 0} (f : A → Answer) (range : A) : Type 0 where
  told : f range ≡ Range
  alone : (a : A) → is_range (f a) ≡ true → a ≡ range

told_alike : {A : Type 0} (f : A → Answer) (range : A) (by : ℤ) (q r : State) (x y : A × State) → IsTold f range → IsLower by q r
    → (x.0 ≡ range → x.1 ≡ q) → (y.0 ≡ range → y.1 ≡ r) → queues.AreAlike range by x y → OneAlike by (f x.0, x.1) (f y.0, y.1)
told_alike f range by q r x y t h stays too (inl k) same =
    let other : y.0 ≡ range = t.alone y.0 (sym same ∙ ap is_range (ap f k ∙ t.told)) in
    (ap f (k ∙ sym other), subst (IsLower by x.1) (sym (too other)) (subst (λ (z : State). IsLower by z r) (sym (stays k)) h))
told_alike f range by q r x y t h stays too (inr (inl k)) same =
    let other : x.0 ≡ range = t.alone x.0 (same ∙ ap is_range (ap f k ∙ t.told)) in
    (ap f (other ∙ sym k), subst (IsLower by x.1) (sym (too k)) (subst (λ (z : State). IsLower by z r) (sym (stays other)) h))
told_alike f range by q r x y t h stays too (inr (inr k)) same = (ap f k.0, k.1)

module _ (by : ℕ → ℤ) (m n : Machine) (h : IsLowerMachine by m n) where
  at_one : (cpu : ℕ) (x y : Answer × State) → OneAlike (by cpu) x y → AreAlike by (at_cpu m cpu x) (at_cpu n cpu y)
  at_one cpu x y alike same = let k = alike same in (k.0, machine_set by m n cpu x.1 y.1 h k.1)

  at_both : (cpu other : ℕ) (x y : Answer × (State × State)) → TwoAlike (by cpu) (by other) x y → AreAlike by (at_two m cpu other x) (at_two n cpu other y)
  at_both cpu other x y alike same =
      let k = alike same in (k.0, machine_set by _ _ other x.1.1 y.1.1 (machine_set by m n cpu x.1.0 y.1.0 h k.1.0) k.1.1)

module _ (alike : LoweredQueueAnswersAlike) (by : ℤ) (q r : State) (h : IsLower by q r) where
  answers : AnswerAlike by q r
  answers = alike by q r h

  -- ---- what a queue gives
  nothing_or : (b : Bool) (o : Option Contents) → cond b (option_map (lowered_contents by) o) None ≡ option_map (lowered_contents by) (cond b o None)
  nothing_or true o = refl
  nothing_or false o = refl

  running_lower : (task : ℕ) → carried_running r task ≡ option_map (lowered_contents by) (carried_running q task)
  running_lower task =
      ap (λ (o : Option ℕ). cond (is_running o task) (carried r task) None) h.running
      ∙ ap (λ (o : Option Contents). cond (is_running q.running task) o None) (answers.carried task)
      ∙ nothing_or (is_running q.running task) (carried q task)

  no_lag : (o : Option Contents) → option_map without_lag (option_map (lowered_contents by) o) ≡ option_map (lowered_contents by) (option_map without_lag o)
  no_lag None = refl
  no_lag (Some p) = refl

  ending_lower : (task : ℕ) → ending r task ≡ option_map (lowered_contents by) (ending q task)
  ending_lower task = ap (option_map without_lag) (answers.carried task) ∙ no_lag (carried q task)

  offered : (o : Option ℕ) → option_and_then (carried r) o ≡ option_map (lowered_contents by) (option_and_then (carried q) o)
  offered None = refl
  offered (Some task) = answers.carried task

  offer_lower : offer r ≡ option_map (lowered_contents by) (offer q)
  offer_lower = ap (option_and_then (carried r)) answers.candidate ∙ offered (candidate_of q.runnable q.running)

  -- ---- sleeps and ends where the home is
  left_one : (f : Option Contents → State → Answer × State) (o low : Option Contents) → low ≡ option_map (lowered_contents by) o → OneAlike by (f None q) (f None r)
      → ((p : Contents) → OneAlike by (f (Some p) q) (f (Some (lowered_contents by p)) r)) → OneAlike by (f o q) (f low r)
  left_one f None low e none some = subst (λ (x : Option Contents). OneAlike by (f None q) (f x r)) (sym e) none
  left_one f (Some p) low e none some = subst (λ (x : Option Contents). OneAlike by (f (Some p) q) (f x r)) (sym e) (some p)

  asleep_one : (p : Contents) → IsLower by (put_asleep (leave q p.task) p) (put_asleep (leave r p.task) (lowered_contents by p))
  asleep_one p = (alike by (leave q p.task) (leave r p.task) (answers.left p.task)).put_asleep p

  sleep_one : (task : ℕ) → OneAlike by (slept_here (carried_running q task) q) (slept_here (carried_running r task) r)
  sleep_one task = left_one slept_here (carried_running q task) (carried_running r task) (running_lower task) (λ same. (refl, h)) (λ p same. (refl, asleep_one p))

  -- a place counts the shift, by which that of the lower queue is greater
  same_place : (start shift lower : ℤ) → lower ≡ shift +ℤ by → (start -ℤ by) +ℤ lower ≡ start +ℤ shift
  same_place start shift lower e = omega (arith, ints, e)

  put_dozing_alike : (v w : State) (p : Contents) → IsLower by v w → IsLower by (put_dozing v p) (put_dozing w (lowered_contents by p))
  put_dozing_alike v w p k = record {
    runnable = k.runnable;
    running = k.running;
    asleep = ap (λ (sleepers : FinMap nat_cmp Sleeper). insert sleepers p.task (dozing p)) k.asleep;
    base = k.base;
    places = ap (λ (places : FinMap nat_cmp ℤ). insert places p.task ((p.start -ℤ by) +ℤ w.shift)) k.places ∙ ap (insert v.places p.task) (same_place p.start v.shift w.shift k.shift);
    shift = k.shift;
  }

  doze_one : (task : ℕ) → OneAlike by (dozed_here (carried_running q task) q) (dozed_here (carried_running r task) r)
  doze_one task =
      left_one dozed_here (carried_running q task) (carried_running r task) (running_lower task) (λ same. (refl, h))
      (λ p same. (refl, put_dozing_alike (leave q p.task) (leave r p.task) p (answers.left p.task)))

  end_one : (task : ℕ) → OneAlike by (ended_here (ending q task) q) (ended_here (ending r task) r)
  end_one task = left_one ended_here (ending q task) (ending r task) (ending_lower task) (λ same. (refl, h)) (λ p same. (refl, asleep_one p))

-- ---- two queues
module _ (alike : LoweredQueueAnswersAlike) (a b : ℤ) (q r s u : State) (h : IsLower a q r) (k : IsLower b s u) where
  left_two : (f : Option Contents → State → State → Answer × (State × State)) (o low : Option Contents) → low ≡ option_map (lowered_contents a) o
      → TwoAlike a b (f None q s) (f None r u) → ((p : Contents) → TwoAlike a b (f (Some p) q s) (f (Some (lowered_contents a p)) r u)) → TwoAlike a b (f o q s) (f low r u)
  left_two f None low e none some = subst (λ (x : Option Contents). TwoAlike a b (f None q s) (f x r u)) (sym e) none
  left_two f (Some p) low e none some = subst (λ (x : Option Contents). TwoAlike a b (f (Some p) q s) (f x r u)) (sym e) (some p)

  moved_two : (p : Contents) → IsLower a (leave q p.task) (leave r p.task) × IsLower b (put_asleep s p) (put_asleep u (lowered_contents a p))
  moved_two p = ((alike a q r h).left p.task, (alike b s u k).put_asleep p)

  sleep_two : (task : ℕ) → TwoAlike a b (slept_away (carried_running q task) q s) (slept_away (carried_running r task) r u)
  sleep_two task =
      left_two slept_away (carried_running q task) (carried_running r task) (running_lower alike a q r h task) (λ same. (refl, (h, k))) (λ p same. (refl, moved_two p))

  end_two : (task : ℕ) → TwoAlike a b (ended_away (ending q task) q s) (ended_away (ending r task) r u)
  end_two task = left_two ended_away (ending q task) (ending r task) (ending_lower alike a q r h task) (λ same. (refl, (h, k))) (λ p same. (refl, moved_two p))

  -- ---- pulls
  here : (v : State) (task : ℕ) (o : Option Entry) → is_some (with_runnable v task o) ≡ is_some o
  here v task None = refl
  here v task (Some e) = refl

  placed : (v : State) (p : Contents) → can_place v (sleeper_of p) ≡ is_some (put v p.task (sleeper_of p))
  placed v p = sym (here v p.task (placed_entry v (sleeper_of p)))

  pulled_by : (p : Contents) (x y : Option State) → x ≡ put q p.task (sleeper_of p) → y ≡ put r p.task (sleeper_of p) → JoinAlike a x y
      → TwoAlike a b (pulled (cond (is_some x) (Ok p) (Err Range)) q s) (pulled (cond (is_some y) (Ok (lowered_contents b p)) (Err Range)) r u)
  pulled_by p None None e f j same = (refl, (h, k))
  pulled_by p None (Some w) e f j same = cc
  pulled_by p (Some v) None e f j same = cc
  pulled_by p (Some v) (Some w) e f j same = (
    refl,
    (
      subst (λ (o : Option State). IsLower a (unwrap_or o q) (with_task r p)) e (subst (λ (o : Option State). IsLower a v (unwrap_or o r)) f j),
      (alike b s u k).left p.task,
    ),
  )

  pulled_where : (p : Contents) (lighter : Bool)
      → TwoAlike a b (pulled (cond lighter (cond (can_place q (sleeper_of p)) (Ok p) (Err Range)) (Err Balanced)) q s)
      (pulled (cond lighter (cond (can_place r (sleeper_of p)) (Ok (lowered_contents b p)) (Err Range)) (Err Balanced)) r u)
  pulled_where p false = λ same. (refl, (h, k))
  pulled_where p true =
      subst (λ (can : Bool). TwoAlike a b (pulled (cond can (Ok p) (Err Range)) q s) (pulled (cond (can_place r (sleeper_of p)) (Ok (lowered_contents b p)) (Err Range)) r u))
      (sym (placed q p))
      (subst (λ (can : Bool). TwoAlike a b (pulled (cond (is_some (put q p.task (sleeper_of p))) (Ok p) (Err Range)) q s) (pulled (cond can (Ok (lowered_contents b p)) (Err Range)) r u))
      (sym (placed r p))
      (pulled_by p (put q p.task (sleeper_of p)) (put r p.task (sleeper_of p)) refl refl ((alike a q r h).put p.task (sleeper_of p))))

  pulled_of : (load : ℕ) (o : Option Contents) → TwoAlike a b (pulled (decision q load o) q s) (pulled (decision r load (option_map (lowered_contents b) o)) r u)
  pulled_of load None = λ same. (refl, (h, k))
  pulled_of load (Some p) =
      subst (λ (w : ℕ). TwoAlike a b (pulled (decision q load (Some p)) q s)
      (pulled (cond (nat_lt (w + weight_of p.nice) load) (cond (can_place r (sleeper_of p)) (Ok (lowered_contents b p)) (Err Range)) (Err Balanced)) r u))
      (sym (alike a q r h).load) (pulled_where p (nat_lt (load_of q + weight_of p.nice) load))

  pulled_two : TwoAlike a b (pulled (decision q (load_of s) (offer s)) q s) (pulled (decision r (load_of u) (offer u)) r u)
  pulled_two =
      subst (λ (w : ℕ). TwoAlike a b (pulled (decision q (load_of s) (offer s)) q s) (pulled (decision r w (offer u)) r u)) (sym (alike b s u k).load)
      (subst (λ (o : Option Contents). TwoAlike a b (pulled (decision q (load_of s) (offer s)) q s) (pulled (decision r (load_of s) o) r u))
      (sym (offer_lower alike b s u k)) (pulled_of (load_of s) (offer s)))

-- ---- each deed
module _ (alike : LoweredQueueAnswersAlike) (homes : List ℕ) (by : ℕ → ℤ) (m n : Machine) (h : IsLowerMachine by m n) where
  abbrev Alike : ℕ → Act → Type 0
  Alike cpu does = AreAlike by (done_at cpu does m) (done_at cpu does n)

  there : (cpu : ℕ) → AnswerAlike (by cpu) (queue_at m cpu) (queue_at n cpu)
  there cpu = alike (by cpu) (queue_at m cpu) (queue_at n cpu) (h.queues cpu)

  at_here : (cpu : ℕ) (x y : Answer × State) → OneAlike (by cpu) x y → AreAlike by (at_cpu m cpu x) (at_cpu n cpu y)
  at_here = at_one by m n h

  told : {A : Type 0} (cpu : ℕ) (f : A → Answer) (range : A) (x y : A × State) → IsTold f range → (x.0 ≡ range → x.1 ≡ queue_at m cpu) → (y.0 ≡ range → y.1 ≡ queue_at n cpu)
      → queues.AreAlike range (by cpu) x y → AreAlike by (at_cpu m cpu (f x.0, x.1)) (at_cpu n cpu (f y.0, y.1))
  told cpu f range x y t stays too alike =
      at_here cpu _ _ (told_alike f range (by cpu) (queue_at m cpu) (queue_at n cpu) x y t (h.queues cpu) stays too alike)

  sleeps_away : (cpu task home : ℕ) → Alike cpu (act.Transfer home (transfer.Sleep task))
  sleeps_away cpu task home =
      at_both by m n h cpu home _ _
      (sleep_two alike (by cpu) (by home) (queue_at m cpu) (queue_at n cpu) (queue_at m home) (queue_at n home) (h.queues cpu) (h.queues home) task)

  sleeps : (cpu task home : ℕ) (b : Bool) → Alike cpu (cond b (act.Local (local.Sleep task)) (act.Transfer home (transfer.Sleep task)))
  sleeps cpu task home true = at_here cpu _ _ (sleep_one alike (by cpu) (queue_at m cpu) (queue_at n cpu) (h.queues cpu) task)
  sleeps cpu task home false = sleeps_away cpu task home

  dozes : (cpu task home : ℕ) (b : Bool) → Alike cpu (cond b (act.Local (local.Doze task)) (act.Transfer home (transfer.Sleep task)))
  dozes cpu task home true = at_here cpu _ _ (doze_one alike (by cpu) (queue_at m cpu) (queue_at n cpu) (h.queues cpu) task)
  dozes cpu task home false = sleeps_away cpu task home

  ends : (cpu task home : ℕ) (b : Bool) → Alike cpu (cond b (act.Local (local.End task)) (act.Transfer home (transfer.End task)))
  ends cpu task home true = at_here cpu _ _ (end_one alike (by cpu) (queue_at m cpu) (queue_at n cpu) (h.queues cpu) task)
  ends cpu task home false =
      at_both by m n h cpu home _ _
      (end_two alike (by cpu) (by home) (queue_at m cpu) (queue_at n cpu) (queue_at m home) (queue_at n home) (h.queues cpu) (h.queues home) task)

  done_alike : (deed : Deed) → is_rebase deed ≡ false → AreAlike by (whole homes deed m) (whole homes deed n)
  done_alike (Tick cpu ns) e =
      told cpu answer_of_tick ticks.Range _ _ (record { told = refl; alone = λ a is. grind arith }) (tick_stays (queue_at m cpu) ns) (tick_stays (queue_at n cpu) ns) ((there cpu).tick ns)
  done_alike (Pick cpu) e = at_here cpu _ _ (λ same. (ap answer_of_pick (sym (there cpu).pick), (there cpu).picked))
  done_alike (Yield cpu) e = told cpu answer_of_yield yields.Range _ _ (record { told = refl; alone = λ a is. grind arith }) (yield_stays (queue_at m cpu)) (yield_stays (queue_at n cpu)) (there cpu).yields
  done_alike (Sleep cpu task) e = sleeps cpu task (home_of homes task) (home_of homes task == cpu)
  done_alike (Doze cpu task) e = dozes cpu task (home_of homes task) (home_of homes task == cpu)
  done_alike (Wake cpu task sender) e =
      told cpu answer_of_wake wakes.Range _ _ (record { told = refl; alone = λ a is. grind arith }) (wake_stays (queue_at m cpu) task) (wake_stays (queue_at n cpu) task) ((there cpu).wake task)
  done_alike (Pull cpu source) e =
      at_both by m n h cpu source _ _
      (pulled_two alike (by cpu) (by source) (queue_at m cpu) (queue_at n cpu) (queue_at m source) (queue_at n source) (h.queues cpu) (h.queues source))
  done_alike (Renice cpu task nice) e =
      told cpu answer_of_renice renices.Range _ _ (record { told = refl; alone = λ a is. grind arith }) (renice_stays (queue_at m cpu) task nice) (renice_stays (queue_at n cpu) task nice) ((there cpu).renice task nice)
  done_alike (Begin cpu task nice slice) e =
      at_here cpu _ _ (λ same. (ap (λ asleep. answer_of_begin (contains_key asleep task)) (sym (h.queues cpu).asleep), (there cpu).begin task nice slice))
  done_alike (End cpu task) e = ends cpu task (home_of homes task) (home_of homes task == cpu)
  done_alike (Set cpu task nice slice) e =
      told cpu answer_of_set sets.Range _ _ (record { told = refl; alone = λ a is. grind arith }) (set_stays (queue_at m cpu) task nice slice) (set_stays (queue_at n cpu) task nice slice) ((there cpu).set task nice slice)
  done_alike (Rebase cpu) e = cc

pub lowered_machine_answers_alike : LoweredQueueAnswersAlike → LoweredMachineAnswersAlike
lowered_machine_answers_alike alike homes by m n deed e h = done_alike alike homes by m n h deed e
