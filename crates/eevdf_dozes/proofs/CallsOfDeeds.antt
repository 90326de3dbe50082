-- One deed of a machine is one call of the queue of a CPU, or leaves it as it is.
use Rattle.std.proofs.Common.{◌≡◌, ℕ, Bool, true, false, cond, ◌||◌, List, length, set, Option, Some, None, refl, sym, ap, ◌∙◌, subst}
use Rattle.std.specs.Prelude.{◌==◌, ℤ, is_some, Result, Ok, Err}
use Rattle.std.specs.{FinMap.get, Option.unwrap_or, Result.result_ok}
use Rattle.std.proofs.{lemmas.List.get_or-set_same}
use Rattle.eevdf_queue.specs.{declared.entry.Entry.Entry, declared.sleeper.Sleeper.Sleeper, State.State, State.Contents, State.empty_state}
use Rattle.eevdf_queue.specs.{declared.answers.WakeAnswer.WakeAnswer, declared.answers.ReniceAnswer.ReniceAnswer, declared.answers.SetAnswer.SetAnswer}
use Rattle.eevdf_queue.specs.declared.answers.WakeAnswer.TheVariants as wakes
use Rattle.eevdf_queue.specs.declared.answers.ReniceAnswer.TheVariants as renices
use Rattle.eevdf_queue.specs.declared.answers.SetAnswer.TheVariants as sets
use Rattle.eevdf_queue.specs.{Doze.dozed, Doze.put_dozing, Leaving.leave, Leaving.carried_running, Moves.put_asleep, Moves.sleeper_of, Moves.with_runnable, Placing.put}
use Rattle.eevdf_queue.specs.{Wake.wake, Wake.wake_sleeper, Wake.wake_to, Wake.waking_entry, Renice.renice, Renice.renice_entry, Renice.renice_to, Renice.reniced}
use Rattle.eevdf_queue.specs.Attributes.{set as set_task, set_reniced, set_sleeper, begin, begin_sleeper}
use Rattle.eevdf_ops.specs.{declared.deeds.Deed.Deed, declared.deeds.Answer.Answer}
use Rattle.eevdf_ops.specs.declared.deeds.Deed.TheVariants.{Tick, Pick, Yield, Sleep, Doze, Wake, Pull, Renice, Begin, End, Set, Rebase}
use Rattle.eevdf_ops.specs.OneQueue.{one_tick, one_pick, one_yield, one_wake, one_renice, one_begin, one_set, one_rebase, answer_of_wake, answer_of_renice, answer_of_set, answer_of_begin}
use Rattle.eevdf_ops.specs.{Machine.Machine, Machine.queue_at, Origins.decider, Setup.home_of, WholeEnd.ending, Whole.whole, PartsLaws.Fits}
use Rattle.eevdf_ops.specs.Parts.{touches, only_at, after_leaving, after_falling_asleep, after_joining, after_putting, answer_of_sleep, answer_of_end, answer_of_pull}
use Rattle.eevdf_ops.specs.{declared.halves.Putting.Putting, declared.halves.Putting.TheVariants.Dozing}
use Rattle.eevdf_ops.specs.WholePull.{offer, load_of, pull_decision, with_task}
use Rattle.eevdf_ops.proofs.{DeedNames.decider_below, DeedNames.unequal, MapCounts.equal, Pulling.refusals, Carried.running-carries, Carried.running-leaves, Carried.ending-carries}
use Rattle.eevdf_ops.proofs.LocalParts.{whole-after, whole-answer, others_stay, taken_ok, dozing-here, sleeping-away}
use Rattle.eevdf_dozes.specs.Histories.{Call, Touch, after_call}
use Rattle.eevdf_dozes.specs.Histories as call
use Rattle.eevdf_dozes.specs.{Calls.Touches, OneCpu.call_of, OneCpu.call_at}
use Rattle.eevdf_dozes.proofs.Touching.{touches_nothing, touches_then, joined_touches, calls_touch_one}

-- ---- what a call does, if there is one
abbrev pub after_maybe : State → Option Call → State
after_maybe q None = q
after_maybe q (Some one) = after_call q one

abbrev pub TouchesOne : State → Option Call → Type 0
TouchesOne q (Some (Touch task r)) = Touches task q r
TouchesOne q o = Unit {0}

abbrev pub ticks_in : Option Call → Option ℕ
ticks_in (Some (call.Tick ns)) = Some ns
ticks_in o = None

-- for how long a deed ticks a CPU
abbrev pub ticked_at : ℕ → Deed → Option ℕ
ticked_at k (Tick at ns) = cond (k == at) (Some ns) None
ticked_at k deed = None

pub record IsStep (o : Option Call) (n : Option ℕ) (q r : State) : Type 0 where
  pub after : r ≡ after_maybe q o
  pub touches : TouchesOne q o
  pub ticks : ticks_in o ≡ n

nothing : (q r : State) → r ≡ q → IsStep None None q r
nothing q r is = record { after = is; touches = tt; ticks = refl }

touched : (task : ℕ) (q r : State) → Touches task q r → IsStep (Some (Touch task r)) None q r
touched task q r h = record { after = refl; touches = h; ticks = refl }

-- ---- what is refused leaves the queue
module _ (q : State) (t : ℕ) where
  wake_joined : (x : Option State) → ((wake_to q t x).0 ≡ wakes.Woken → ⊥) → (wake_to q t x).1 ≡ q
  wake_joined None not = refl
  wake_joined (Some joined) not = absurd (not refl)

  wake_refused : (o : Option Sleeper) → ((wake_sleeper q t o).0 ≡ wakes.Woken → ⊥) → (wake_sleeper q t o).1 ≡ q
  wake_refused None not = refl
  wake_refused (Some s) not = wake_joined (with_runnable q t (waking_entry q s (get q.places t))) not

  renice_joined : (x : Option State) → ((renice_to q x).0 ≡ renices.Reniced → ⊥) → (renice_to q x).1 ≡ q
  renice_joined None not = refl
  renice_joined (Some joined) not = absurd (not refl)

  renice_refused : (nice : ℤ) (o : Option Entry) → ((renice_entry q t nice o).0 ≡ renices.Reniced → ⊥) → (renice_entry q t nice o).1 ≡ q
  renice_refused nice None not = refl
  renice_refused nice (Some e) not = renice_joined (put (leave q t) t (reniced q e nice)) not

  set_asleep : (nice : ℤ) (slice : ℕ) (o : Option Sleeper) → ((set_sleeper q t nice slice o).0 ≡ sets.Set → ⊥) → (set_sleeper q t nice slice o).1 ≡ q
  set_asleep nice slice None not = refl
  set_asleep nice slice (Some s) not = absurd (not refl)

  set_refused : (nice : ℤ) (slice : ℕ) (a : ReniceAnswer) (joined : State) → ((set_reniced q t nice slice a joined).0 ≡ sets.Set → ⊥) → (set_reniced q t nice slice a joined).1 ≡ q
  set_refused nice slice renices.Reniced joined not = absurd (not refl)
  set_refused nice slice renices.NotHere joined not = set_asleep nice slice (get q.asleep t) not
  set_refused nice slice renices.Range joined not = refl

  begin_refused : (nice : ℤ) (slice : ℕ) (o : Option Sleeper) → is_some o ≡ false → begin_sleeper q t nice slice o ≡ q
  begin_refused nice slice None not = refl
  begin_refused nice slice (Some s) not = cc

-- ---- a deed on one queue
module _ (homes : List ℕ) where
  wake_by : (q : State) (at task sender : ℕ) (a : WakeAnswer) → (wake q task).0 ≡ a → IsStep (call_of homes (Wake at task sender) (answer_of_wake a) (wake q task).1) None q (wake q task).1
  wake_by q at task sender wakes.Woken is = record { after = refl; touches = tt; ticks = refl }
  wake_by q at task sender wakes.Awake is = nothing q (wake q task).1 (wake_refused q task (get q.asleep task) (λ e. cc))
  wake_by q at task sender wakes.Range is = nothing q (wake q task).1 (wake_refused q task (get q.asleep task) (λ e. cc))

  renice_by : (q : State) (at task : ℕ) (nice : ℤ) (a : ReniceAnswer) → (renice q task nice).0 ≡ a
      → IsStep (call_of homes (Renice at task nice) (answer_of_renice a) (renice q task nice).1) None q (renice q task nice).1
  renice_by q at task nice renices.Reniced is = touched task q (renice q task nice).1 (calls_touch_one.renices q task nice)
  renice_by q at task nice renices.NotHere is = nothing q (renice q task nice).1 (renice_refused q task nice (get q.runnable task) (λ e. cc))
  renice_by q at task nice renices.Range is = nothing q (renice q task nice).1 (renice_refused q task nice (get q.runnable task) (λ e. cc))

  set_by : (q : State) (at task : ℕ) (nice : ℤ) (slice : ℕ) (a : SetAnswer) → (set_task q task nice slice).0 ≡ a
      → IsStep (call_of homes (Set at task nice slice) (answer_of_set a) (set_task q task nice slice).1) None q (set_task q task nice slice).1
  set_by q at task nice slice sets.Set is = touched task q (set_task q task nice slice).1 (calls_touch_one.is_set q task nice slice)
  set_by q at task nice slice sets.NotHere is =
      nothing q (set_task q task nice slice).1 (set_refused q task nice slice (renice q task nice).0 (renice q task nice).1 (λ e. cc))
  set_by q at task nice slice sets.Range is =
      nothing q (set_task q task nice slice).1 (set_refused q task nice slice (renice q task nice).0 (renice q task nice).1 (λ e. cc))

  begin_by : (q : State) (at task : ℕ) (nice : ℤ) (slice : ℕ) (b : Bool) → is_some (get q.asleep task) ≡ b
      → IsStep (call_of homes (Begin at task nice slice) (answer_of_begin b) (begin q task nice slice)) None q (begin q task nice slice)
  begin_by q at task nice slice true is = touched task q (begin q task nice slice) (calls_touch_one.begins q task nice slice)
  begin_by q at task nice slice false is = nothing q (begin q task nice slice) (begin_refused q task nice slice (get q.asleep task) is)

  -- ---- a task that leaves one queue and comes to another
  fallen : (q : State) (p : Contents) (b c : Bool) → Touches p.task q (cond c (put_asleep (cond b (leave q p.task) q) p) (cond b (leave q p.task) q))
  fallen q p true true =
      touches_then p.task q (leave q p.task) (put_asleep (leave q p.task) p) (calls_touch_one.leaves q p.task) (calls_touch_one.falls_asleep (leave q p.task) p)
  fallen q p true false = calls_touch_one.leaves q p.task
  fallen q p false true = calls_touch_one.falls_asleep q p
  fallen q p false false = touches_nothing p.task q

  joined : (q : State) (p : Contents) (o : Option State) → put q p.task (sleeper_of p) ≡ o → Touches p.task q (unwrap_or o q)
  joined q p None is = touches_nothing p.task q
  joined q p (Some r) is = joined_touches q r p.task (sleeper_of p) is

  brought : (q : State) (p : Contents) (b c : Bool) → Touches p.task q (cond c (with_task (cond b (leave q p.task) q) p) (cond b (leave q p.task) q))
  brought q p true true =
      touches_then p.task q (leave q p.task) (with_task (leave q p.task) p) (calls_touch_one.leaves q p.task) (joined (leave q p.task) p (put (leave q p.task) p.task (sleeper_of p)) refl)
  brought q p true false = calls_touch_one.leaves q p.task
  brought q p false true = joined q p (put q p.task (sleeper_of p)) refl
  brought q p false false = touches_nothing p.task q

  as_before : (q : State) (b c : Bool) → cond c (cond b q q) (cond b q q) ≡ q
  as_before q true true = refl
  as_before q true false = refl
  as_before q false true = refl
  as_before q false false = refl

  -- by what is taken along; the call is a function of that and of the queue afterwards
  rests : (f : Option Contents → State → Option Call) (q r : State) (b c : Bool) (o : Option Contents) → r ≡ cond c (after_falling_asleep o (cond b (after_leaving o q) q)) (cond b (after_leaving o q) q)
      → (f None r ≡ None) → ((p : Contents) → o ≡ Some p → f (Some p) r ≡ Some (Touch p.task r)) → IsStep (f o r) None q r
  rests f q r b c None is none some = subst (λ (x : Option Call). IsStep x None q r) (sym none) (nothing q r (is ∙ as_before q b c))
  rests f q r b c (Some p) is none some =
      subst (λ (x : Option Call). IsStep x None q r) (sym (some p refl)) (touched p.task q r (subst (Touches p.task q) (sym is) (fallen q p b c)))

module _ (homes : List ℕ) (m : Machine) (k : ℕ) where
  thrice : (b : Bool) → (b || (b || b)) ≡ true → b ≡ true
  thrice true h = refl
  thrice false h = cc

  here_of : (at : ℕ) → ((k == at) || ((k == at) || (k == at))) ≡ true → (k == at) ≡ true
  here_of at h = thrice (k == at) h

  -- what a deed does to its CPU's queue alone
  own : (d : Deed) (n : Option ℕ) (one : State → Answer × State) → Fits homes d m → ((k == decider d) || ((k == decider d) || (k == decider d))) ≡ true
      → ((q : State) → IsStep (call_of homes d (one q).0 (one q).1) n q (one q).1)
      → IsStep (call_of homes d (one (queue_at m (decider d))).0 (queue_at (set m (decider d) (one (queue_at m (decider d))).1) k)) n (queue_at m k)
      (queue_at (set m (decider d) (one (queue_at m (decider d))).1) k)
  own d n one fits h told =
      let at : ℕ = decider d in
      let r : State = (one (queue_at m at)).1 in
      subst (λ (i : ℕ). IsStep (call_of homes d (one (queue_at m at)).0 (queue_at (set m at r) i)) n (queue_at m i) (queue_at (set m at r) i))
      (sym (equal k at (here_of at h)))
      (subst (λ (s : State). IsStep (call_of homes d (one (queue_at m at)).0 s) n (queue_at m at) s)
      (sym (get_or-set_same m at r empty_state (decider_below (length m) homes d fits.allowed))) (told (queue_at m at)))

  -- ---- a doze at home
  dozed_off : (q r : State) (at task : ℕ) (o : Option Contents) → carried_running q task ≡ o → r ≡ after_putting Dozing o (after_leaving o q) → (home_of homes task == at) ≡ true
      → IsStep (call_of homes (Doze at task) (answer_of_sleep o) r) None q r
  dozed_off q r at task None is after home = nothing q r after
  dozed_off q r at task (Some p) is after home =
      subst (λ (b : Bool). IsStep (Some (cond b (call.Doze task) (Touch task r))) None q r) (sym home)
      (record {
        after = after ∙ ap (λ (s : State). put_dozing s p) (sym (running-leaves q task p is)) ∙ ap (dozed q task) (sym is);
        touches = tt;
        ticks = refl;
      })

  -- ---- a pull
  pulled_by : (at source : ℕ) (q r : State) (b c : Bool) (d : Result Contents Answer) → pull_decision m at source ≡ d
      → r ≡ cond c (after_joining (result_ok d) (cond b (after_leaving (result_ok d) q) q)) (cond b (after_leaving (result_ok d) q) q)
      → IsStep (call_of homes (Pull at source) (answer_of_pull d) r) None q r
  pulled_by at source q r b c (Err why) is after =
      let stays : IsStep None None q r = nothing q r (after ∙ as_before homes q b c) in
      refusals (λ (a : Answer). IsStep (call_of homes (Pull at source) a r) None q r) (queue_at m at) (load_of (queue_at m source)) (offer (queue_at m source)) why is stays stays stays
  pulled_by at source q r b c (Ok p) is after = touched p.task q r (subst (Touches p.task q) (sym after) (brought homes q p b c))

  -- ---- each deed that touches the queue
  touching : (d : Deed) → Fits homes d m → touches homes d k ≡ true → IsStep (call_of homes d (whole homes d m).0 (queue_at (whole homes d m).1 k)) (ticked_at k d) (queue_at m k) (queue_at (whole homes d m).1 k)
  touching (Tick at ns) fits h =
      own (Tick at ns) (ticked_at k (Tick at ns)) (λ q. one_tick q ns) fits h
      (λ q. record { after = refl; touches = tt; ticks = ap (λ (b : Bool). cond {A = Option ℕ} b (Some ns) None) (sym (here_of at h)) })
  touching (Pick at) fits h = own (Pick at) None one_pick fits h (λ q. record { after = refl; touches = tt; ticks = refl })
  touching (Yield at) fits h = own (Yield at) None one_yield fits h (λ q. record { after = refl; touches = tt; ticks = refl })
  touching (Rebase at) fits h = own (Rebase at) None one_rebase fits h (λ q. record { after = refl; touches = tt; ticks = refl })
  touching (Wake at task sender) fits h =
      own (Wake at task sender) None (λ q. one_wake q task) fits h (λ q. wake_by homes q at task sender (wake q task).0 refl)
  touching (Renice at task nice) fits h =
      own (Renice at task nice) None (λ q. one_renice q task nice) fits h (λ q. renice_by homes q at task nice (renice q task nice).0 refl)
  touching (Begin at task nice slice) fits h =
      own (Begin at task nice slice) None (λ q. one_begin q task nice slice) fits h
      (λ q. begin_by homes q at task nice slice (is_some (get q.asleep task)) refl)
  touching (Set at task nice slice) fits h =
      own (Set at task nice slice) None (λ q. one_set q task nice slice) fits h
      (λ q. set_by homes q at task nice slice (set_task q task nice slice).0 refl)
  touching (Sleep at task) fits h =
      let q : State = queue_at m k in
      let r : State = queue_at (whole homes (Sleep at task) m).1 k in
      subst (λ (a : Answer). IsStep (call_of homes (Sleep at task) a r) None q r) (sym (whole-answer homes (Sleep at task) m))
      (rests homes (λ (o : Option Contents) (s : State). call_of homes (Sleep at task) (answer_of_sleep o) s) q r (k == at) (k == home_of homes task) (carried_running (queue_at m at) task)
      (whole-after homes (Sleep at task) m k fits) refl (λ p e. ap (λ (t : ℕ). Some (Touch t r)) (sym (running-carries (queue_at m at) task p e).of_task)))
  touching (End at task) fits h =
      let q : State = queue_at m k in
      let r : State = queue_at (whole homes (End at task) m).1 k in
      subst (λ (a : Answer). IsStep (call_of homes (End at task) a r) None q r) (sym (whole-answer homes (End at task) m))
      (rests homes (λ (o : Option Contents) (s : State). call_of homes (End at task) (answer_of_end o) s) q r (k == at) (k == home_of homes task) (ending (queue_at m at) task)
      (whole-after homes (End at task) m k fits) refl (λ p e. ap (λ (t : ℕ). Some (Touch t r)) (sym (ending-carries (queue_at m at) task p e).of_task)))
  touching (Doze at task) fits h =
      subst (λ (a : Answer). IsStep (call_of homes (Doze at task) a r) None q r) (sym (whole-answer homes (Doze at task) m)) (dozes (home == at) refl)
    where
      home : ℕ
      home = home_of homes task

      q : State
      q = queue_at m k

      r : State
      r = queue_at (whole homes (Doze at task) m).1 k

      o : Option Contents
      o = carried_running (queue_at m at) task

      left_and_put : Putting → Bool → Bool → State
      left_and_put how b c = cond c (after_putting how o (cond b (after_leaving o q) q)) (cond b (after_leaving o q) q)

      dozes : (b : Bool) → (home == at) ≡ b → IsStep (call_of homes (Doze at task) (answer_of_sleep o) r) None q r
      dozes true is =
          let there : home ≡ at = equal home at is in
          let here : (k == at) ≡ true = thrice (k == at) (subst (λ (n : ℕ). ((k == at) || ((k == at) || (k == n))) ≡ true) there h) in
          dozed_off q r at task o (ap (λ (i : ℕ). carried_running (queue_at m i) task) (equal k at here))
          (whole-after homes (Doze at task) m k fits
          ∙ ap (λ (how : Putting). left_and_put how (k == at) (k == home)) (dozing-here at home there)
          ∙ ap (λ (b : Bool). left_and_put Dozing b (k == home)) here
          ∙ ap (left_and_put Dozing true) (ap (λ (n : ℕ). k == n) there ∙ here)) is
      dozes false is =
          rests homes (λ (x : Option Contents) (s : State). call_of homes (Doze at task) (answer_of_sleep x) s) q r (k == at) (k == home) o
          (whole-after homes (Doze at task) m k fits ∙ ap (λ (how : Putting). left_and_put how (k == at) (k == home)) (sleeping-away at home (unequal home at is)))
          refl
          (λ p e. ap (λ (b : Bool). Some (cond b (call.Doze task) (Touch task r))) is ∙ ap (λ (t : ℕ). Some (Touch t r)) (sym (running-carries (queue_at m at) task p e).of_task))
  touching (Pull at source) fits h =
      let q : State = queue_at m k in
      pulled_by at source q (queue_at (whole homes (Pull at source) m).1 k) (k == source) (k == at) (pull_decision m at source) refl
      (whole-after homes (Pull at source) m k fits
      ∙ ap (λ (x : Option Contents). only_at at k (after_joining x) (only_at source k (after_leaving x) q)) (taken_ok (queue_at m at) (queue_at m source) (pull_decision m at source) refl))

  -- ---- and any deed
  or_false : (a b : Bool) → (a || b) ≡ false → a ≡ false
  or_false true b e = cc
  or_false false b e = refl

  unticked : (d : Deed) → touches homes d k ≡ false → ticked_at k d ≡ None
  unticked (Tick at ns) h = ap (λ (b : Bool). cond {A = Option ℕ} b (Some ns) None) (or_false (k == at) ((k == at) || (k == at)) h)
  unticked d h = refl

  pub step : (d : Deed) → Fits homes d m → IsStep (call_at homes k m d) (ticked_at k d) (queue_at m k) (queue_at (whole homes d m).1 k)
  step d fits = by (touches homes d k) refl
    where
      by : (b : Bool) → touches homes d k ≡ b
          → IsStep (cond b (call_of homes d (whole homes d m).0 (queue_at (whole homes d m).1 k)) None) (ticked_at k d) (queue_at m k) (queue_at (whole homes d m).1 k)
      by true h = touching d fits h
      by false h = record { after = others_stay homes d m k h; touches = tt; ticks = sym (unticked d h) }
