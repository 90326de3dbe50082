-- Each micro-step keeps what the callers see a part of the history's whole operations.
use Rattle.std.proofs.Common.{◌≡◌, ℕ, ◌<◌, true, not, ◌||◌, List, [], ◌∷◌, ◌++◌, length, sym, ap, subst, ◌∙◌, inl, inr, refl, arith}
use Rattle.std.proofs.lemmas.Bool.{false≢true, cases_lt, ltb-true, eq-eqb, false_from_ne_true, or_left, or_right}
use Rattle.std.proofs.lemmas.List.{append-nil}
use Rattle.std.specs.Prelude.{◌==◌, MatchOption, Option, Some, None, is_none}
use Rattle.std.specs.{Option.option_to_list}
use Rattle.eevdf_steps.specs.{Commits.committed, Working.FitsHand, Working.HasRoom, UnderWay.under_way, UnderWay.begun, UnderWay.leaves}
use Rattle.eevdf_steps.specs.{declared.micro.Micro.Micro, declared.plan.Step.Step, Serial.FollowsHistory, Serial.IsFree, Serial.IsSerial}
use Rattle.eevdf_queue.specs.{State.State, Leaving.carried_running}
use Rattle.eevdf_ops.specs.{declared.deeds.Op.Op, declared.deeds.Deed.Deed, declared.deeds.Answer.Answer, declared.deeds.Line.Line}
use Rattle.eevdf_ops.specs.{Machine.Machine, Machine.queue_at, Whole.whole, Programs.deed_of, Programs.deeds_of}
use Rattle.eevdf_ops.specs.{Histories.machine_told}
use Rattle.eevdf_ops.specs.declared.deeds.Op.TheVariants as op
use Rattle.eevdf_ops.specs.declared.deeds.Deed.TheVariants as deed
use Rattle.eevdf_ops.specs.{WholeEnd.ending}
use Rattle.eevdf_ops.specs.Parts.{after_leaving, after_putting, answer_of_end, answer_of_sleep, giver, only_at, putting_of_doze}
use Rattle.eevdf_ops.specs.PartsLaws as laws
use Rattle.eevdf_ops.proofs.LocalParts.{whole-after, whole-answer}
use Rattle.eevdf_ops.specs.declared.halves.Putting.{Putting, TheVariants.Asleep, TheVariants.Runnable}
use Rattle.eevdf_ops.specs.OneQueue.{one_tick, one_pick, one_yield, one_renice, one_begin, one_set, one_rebase}
use Rattle.eevdf_steps.specs.declared.micro.Micro.TheVariants.{Acquire, Act, Detach, Attach, Commit, Take, Settle, Release, Post}
use Rattle.eevdf_steps.specs.Plan.{IsSound, Plan, callers, home, is_sound_op}
use Rattle.eevdf_steps.specs.Counters.{Counters, counted, holder, holds, refused, step_next}
use Rattle.eevdf_steps.specs.MicroState.{appends, home_for, line_of, works}
use Rattle.eevdf_steps.specs.Work.{Work, answer, hand, put_in, woken, acted}
use Rattle.eevdf_steps.proofs.{Holders.nobody_past, Holders.not_blocked, Walking.walking, Positions.step_in, SoundSteps.home_below}
use Rattle.eevdf_steps.proofs.{SoundSteps.is_caller, OtherCallers.IsStepOf, OtherCallers.followed_then, Ready.least_there}
use Rattle.eevdf_steps.proofs.Walks.{Covers, FitsWalk, Walk, touched, is_acting, is_moving}
use Rattle.eevdf_steps.proofs.OwnSteps.{AtStep, acquire_step, fresh_begun, quiet_step, release_step, sees_history, hand_empty}
use Rattle.eevdf_steps.proofs.OwnWork.{AtAttach, acted_step, at_attach, own_leaves, pull_leaves, put_step, room_then, ActsThere}
use Rattle.eevdf_steps.proofs.OwnCommits.{commit_answer, commit_step, history_more, length-machine_after, machine_more, settle_answer, settle_step}
use Rattle.eevdf_steps.proofs.SoundDeeds.{are_walking, deed_fits, next_fits_cpu, next_sound_op}

-- an operation that acts or moves does a deed
has_deed : (p : ℕ) (o : Op) → (is_acting o || is_moving o) ≡ true → (d : Deed) × (deed_of p o ≡ Some d)
has_deed p (op.Post t) e = absurd (false≢true e)
has_deed p op.Drain e = absurd (false≢true e)
has_deed p _ e = (_, refl)

line_is : (o : Option Deed) (kept : Option Answer) (d : Deed) (a : Answer) → o ≡ Some d → kept ≡ Some a → line_of o kept ≡ record { deed = d; answer = a } ∷ []
line_is o kept d a e k = ap (λ (x : Option Deed). line_of x kept) e ∙ ap (λ (y : Option Answer). line_of (Some d) y) k

-- a lock that has no holder is free
free_lock : (plan : Plan) (counters : Counters) (c : ℕ) → holder plan counters c ≡ None → IsFree plan counters c
free_lock plan counters c e q =
    elim (cases_lt q (callers plan)) [
      | inl below ↦ false_from_ne_true (holds plan counters c q) (λ held.
          false≢true (sym (least_there (holds plan counters c) 0 (callers plan) q held (omega arith) (omega arith)) ∙ ap (λ (o : Option ℕ). is_none o) e))
      | inr past ↦ nobody_past plan counters c q past
    ]

-- a queue whose lock has no holder is that of the history
pub free_queue : (plan : Plan) (start : Machine) (counters : Counters) (w : Work) (lines : List Line) (c : ℕ) → IsSerial plan start counters w lines → holder plan counters c ≡ None
    → queue_at w.machine c ≡ queue_at (machine_told plan.homes start lines) c
free_queue plan start counters w lines c s e = s.seen.free c (free_lock plan counters c e)

module _ (plan : Plan) (start : Machine) (counters : Counters) (p : ℕ) (w : Work) (lines : List Line) where
  -- the machine of the history
  abbrev told : Machine
  told = machine_told plan.homes start lines

  -- a caller whose step nothing refuses, on lines that are a history
  record Serial (o : Op) (micro : Micro) : Type 0 where
    sound : IsSound plan
    each : length counters ≡ callers plan
    serial : IsSerial plan start counters w lines
    at : AtStep plan counters p told w o micro
    free : refused plan counters micro ≡ None

  -- what the step makes of the queues and the hands, with the lines that it adds
  abbrev Leaves : Work → List Line → Type 0
  Leaves w' more = IsSerial plan start (counted counters p) w' (lines ++ more)

  local_serial : (w' : Work) {o : Op} {micro : Micro} → Serial o micro → IsStepOf plan counters p told told w w' → Leaves w' []
  local_serial w' s step =
      subst (IsSerial plan start (counted counters p) w') (sym (append-nil lines))
      (record { history = s.serial.history; seen = followed_then s.serial.seen step (are_walking plan counters s.sound s.each) })

  -- a line is added
  line_serial : (w' : Work) (d : Deed) (a : Answer) {o : Op} {micro : Micro} → Serial o micro → IsStepOf plan counters p told (whole plan.homes d told).1 w w'
      → a ≡ (whole plan.homes d told).0 → Leaves w' (record { deed = d; answer = a } ∷ [])
  line_serial w' d a s step e = record {
    history = history_more plan.homes start lines d a s.serial.history e;
    seen = subst (λ (m : Machine). FollowsHistory plan m (counted counters p) w') (sym (machine_more plan.homes start lines (record { deed = d; answer = a })))
        (followed_then s.serial.seen step (are_walking plan counters s.sound s.each));
  }

  -- the locks that the caller holds are those of the queues that its operation touches
  holds_covered : (o : Op) (v : Walk plan counters p) → Covers plan p o v.held → (c : ℕ) → holds plan counters c p ≡ touched plan p o c
  holds_covered o v covers c = v.holds_them c ∙ covers c

  act_by : (o : Op) (d : Deed) (f : State → Answer × State) → Serial o Act → deed_of p o ≡ Some d → ((c : ℕ) → touched plan p o c ≡ (c == p))
      → ActsThere plan.homes told p d f → Leaves (acted w p (f (queue_at w.machine p))) []
  act_by o d f s is own there =
      local_serial (acted w p (f (queue_at w.machine p))) s (acted_step d f s.at (λ c. holds_covered o s.at.walk s.at.fits.covers c ∙ own c)
      (ap (λ (n : Option Step). under_way p n) s.at.fits.follows ∙ ap (begun true) is) there)

  act_serial : (h : ℕ) (o : Op) (f : Option ℕ) → Serial o Act → Leaves (works h w p o Act f) []
  act_serial h (op.Tick ns) f s = act_by (op.Tick ns) (deed.Tick p ns) (λ q. one_tick q ns) s refl (λ c. refl) (refl, refl)
  act_serial h op.Pick f s = act_by op.Pick (deed.Pick p) one_pick s refl (λ c. refl) (refl, refl)
  act_serial h op.Yield f s = act_by op.Yield (deed.Yield p) one_yield s refl (λ c. refl) (refl, refl)
  act_serial h (op.Renice task nice) f s = act_by (op.Renice task nice) (deed.Renice p task nice) (λ q. one_renice q task nice) s refl (λ c. refl) (refl, refl)
  act_serial h (op.Begin task nice slice) f s =
      act_by (op.Begin task nice slice) (deed.Begin p task nice slice) (λ q. one_begin q task nice slice) s refl (λ c. refl) (refl, refl)
  act_serial h (op.Set task nice slice) f s =
      act_by (op.Set task nice slice) (deed.Set p task nice slice) (λ q. one_set q task nice slice) s refl (λ c. refl) (refl, refl)
  act_serial h op.Rebase f s = act_by op.Rebase (deed.Rebase p) one_rebase s refl (λ c. refl) (refl, refl)
  act_serial h _ f s = absurd (false≢true s.at.fits.acting)

  detach_serial : (h : ℕ) (o : Op) (f : Option ℕ) → Serial o Detach → Leaves (works h w p o Detach f) []
  detach_serial h (op.Sleep t) f s =
      let own : holds plan counters p p ≡ true = holds_covered (op.Sleep t) s.at.walk s.at.fits.covers p ∙ or_left (p == p) (p == home plan t) (eq-eqb p p refl) in
      local_serial _ s (own_leaves (deed.Sleep p t) (carried_running (queue_at w.machine p) t) answer_of_sleep s.at (ap (λ (n : Option Step). under_way p n) s.at.fits.follows) refl own
      (whole-answer plan.homes (deed.Sleep p t) told) (ap (λ (q : State). carried_running q t) (sym (sees_history s.at refl p own))))
  detach_serial h (op.Doze t) f s =
      let own : holds plan counters p p ≡ true = holds_covered (op.Doze t) s.at.walk s.at.fits.covers p ∙ or_left (p == p) (p == home plan t) (eq-eqb p p refl) in
      local_serial _ s (own_leaves (deed.Doze p t) (carried_running (queue_at w.machine p) t) answer_of_sleep s.at (ap (λ (n : Option Step). under_way p n) s.at.fits.follows) refl own
      (whole-answer plan.homes (deed.Doze p t) told) (ap (λ (q : State). carried_running q t) (sym (sees_history s.at refl p own))))
  detach_serial h (op.End t) f s =
      let own : holds plan counters p p ≡ true = holds_covered (op.End t) s.at.walk s.at.fits.covers p ∙ or_left (p == p) (p == home plan t) (eq-eqb p p refl) in
      local_serial _ s (own_leaves (deed.End p t) (ending (queue_at w.machine p) t) answer_of_end s.at (ap (λ (n : Option Step). under_way p n) s.at.fits.follows) refl own
      (whole-answer plan.homes (deed.End p t) told) (ap (λ (q : State). ending q t) (sym (sees_history s.at refl p own))))
  detach_serial h (op.Pull q) f s =
      let covered : (c : ℕ) → holds plan counters c p ≡ touched plan p (op.Pull q) c = holds_covered (op.Pull q) s.at.walk s.at.fits.covers in
      let own : holds plan counters p p ≡ true = covered p ∙ or_left (p == p) (p == q) (eq-eqb p p refl) in
      let source : holds plan counters q p ≡ true = covered q ∙ or_right (q == p) (q == q) (eq-eqb q q refl) in
      local_serial _ s (pull_leaves q s.at (ap (λ (n : Option Step). under_way p n) s.at.fits.follows) own source
      (ltb-true q (callers plan) (next_sound_op plan counters p (step_in (op.Pull q) Detach) s.sound s.at.next)))
  detach_serial h _ f s = absurd (false≢true s.at.fits.moving)

  holds_own_queue : (q : ℕ) → Serial (op.Pull q) Attach → holds plan counters p p ≡ true
  holds_own_queue q s = holds_covered (op.Pull q) s.at.walk s.at.fits.covers p ∙ or_left (p == p) (p == q) (eq-eqb p p refl)

  -- the task in hand, of a sleep, a doze or an end, is put in at its home
  home_serial : (o : Op) (d : Deed) (t : ℕ) (how : Putting) → Serial o Attach → deed_of p o ≡ Some d → (is_sound_op plan o ≡ true → t < length plan.homes)
      → ((c : ℕ) → touched plan p o c ≡ ((c == p) || (c == home plan t)))
      → (laws.Fits plan.homes d told → (c : ℕ) → queue_at (whole plan.homes d told).1 c
      ≡ only_at (home plan t) c (after_putting how (leaves plan.homes told d)) (only_at (giver d) c (after_leaving (leaves plan.homes told d)) (queue_at told c)))
      → Leaves (put_in w p (home plan t) how (hand w p)) []
  home_serial o d t how s is task covers after =
      local_serial _ s (put_step (home plan t) how d (at_attach d s.at is)
      (holds_covered o s.at.walk s.at.fits.covers (home plan t) ∙ covers (home plan t)
      ∙ or_right (home plan t == p) (home plan t == home plan t) (eq-eqb (home plan t) (home plan t) refl))
      (home_below plan t s.sound (task (next_sound_op plan counters p (step_in o Attach) s.sound s.at.next)))
      (after (deed_fits plan counters p (step_in o Attach) d s.sound s.at.next is told s.at.long)))

  attach_serial : (o : Op) (f : Option ℕ) → Serial o Attach → Leaves (works (home_for plan p o) w p o Attach f) []
  attach_serial (op.Sleep t) f s = home_serial (op.Sleep t) (deed.Sleep p t) t Asleep s refl (ltb-true t (length plan.homes)) (λ c. refl) (λ fits c. whole-after plan.homes (deed.Sleep p t) told c fits)
  attach_serial (op.Doze t) f s =
      home_serial (op.Doze t) (deed.Doze p t) t (putting_of_doze p (home plan t)) s refl (ltb-true t (length plan.homes)) (λ c. refl) (λ fits c. whole-after plan.homes (deed.Doze p t) told c fits)
  attach_serial (op.End t) f s = home_serial (op.End t) (deed.End p t) t Asleep s refl (ltb-true t (length plan.homes)) (λ c. refl) (λ fits c. whole-after plan.homes (deed.End p t) told c fits)
  attach_serial (op.Pull q) f s =
      local_serial _ s (put_step p Runnable (deed.Pull p q) (at_attach (deed.Pull p q) s.at refl) (holds_own_queue q s) s.at.caller
      (λ c. whole-after plan.homes (deed.Pull p q) told c (deed_fits plan counters p (step_in (op.Pull q) Attach) (deed.Pull p q) s.sound s.at.next refl told s.at.long)))
  attach_serial _ f s = absurd (false≢true s.at.fits.moving)

  commit_serial : (o : Op) → Serial o Commit → Leaves w (line_of (deed_of p o) (answer w p))
  commit_serial o s =
      let (d, e) = has_deed p o s.at.fits.acting_or_moving in
      subst (Leaves w) (sym (line_is (deed_of p o) (answer w p) d (whole plan.homes d told).0 e (commit_answer d s.at e)))
      (line_serial w d (whole plan.homes d told).0 s (commit_step d s.at e) refl)

  settle_serial : (q h : ℕ) (o : Op) (f : Option ℕ) → Serial o (Settle q) → Leaves (works h w p o (Settle q) f) (appends w p o (Settle q) f)
  settle_serial q h o None s = local_serial w s (quiet_step s.at refl (λ c b. refl) (fresh_begun p (step_next plan (counted counters p) p) s.at.fits.fresh))
  settle_serial q h o (Some t) s =
      let covers : (c : ℕ) → holds plan counters c p ≡ (c == p)
      = λ c. holds_covered o s.at.walk s.at.fits.covers c ∙ ap (λ (x : Op). touched plan p x c) s.at.fits.drains in
      line_serial (woken w p t) (deed.Wake p t q) _ s (settle_step t s.at covers) (settle_answer t s.at covers)

  serial_by : (o : Op) (micro : Micro) (f : Option ℕ) → Serial o micro → Leaves (works (home_for plan p o) w p o micro f) (appends w p o micro f)
  serial_by o (Acquire c) f s = local_serial w s (acquire_step s.at (free_lock plan counters c (not_blocked c (holder plan counters c) s.free)))
  serial_by o (Release c) f s = local_serial w s (release_step s.at)
  serial_by o Act f s = act_serial (home_for plan p o) o f s
  serial_by o Detach f s = detach_serial (home_for plan p o) o f s
  serial_by o Attach f s = attach_serial o f s
  serial_by o Commit f s = commit_serial o s
  serial_by o (Settle q) f s = settle_serial q (home_for plan p o) o f s
  serial_by o (Take q) f s = local_serial w s (quiet_step s.at refl (λ c b. refl) (ap (λ (n : Option Step). under_way p n) s.at.fits.follows))
  serial_by o (Post t) f s = local_serial w s (quiet_step s.at refl (λ c b. refl) (fresh_begun p (step_next plan (counted counters p) p) s.at.fits.fresh))

  -- the deeds of the lines that a step appends are those that it commits
  appended : (o : Op) (micro : Micro) (f : Option ℕ) → Serial o micro → deeds_of (appends w p o micro f) ≡ option_to_list (committed f p o micro)
  appended o Commit f s = grind arith
  appended o (Settle q) None s = refl
  appended o (Settle q) (Some t) s = refl
  appended o _ f s = refl

  -- what is in the hand can be put down
  room_in_hand : (o : Op) → Serial o Attach → HasRoom w p o
  room_in_hand (op.Pull q) s =
      let a : AtAttach plan counters p told w (op.Pull q) (deed.Pull p q) = at_attach (deed.Pull p q) s.at refl in
      room_then q (hand w p) a (holds_own_queue q s)
      (λ same. false≢true (sym (ap not (eq-eqb q p same)) ∙ next_fits_cpu plan counters p (step_in (op.Pull q) Attach) s.sound s.at.next)) (sym a.hand_is)
  room_in_hand _ s = tt

  hand_fits : (o : Op) (micro : Micro) → Serial o micro → FitsHand w p o micro
  hand_fits o Detach s = hand_empty s.at refl
  hand_fits o Attach s = room_in_hand o s
  hand_fits o _ s = tt

-- lists that have a member for each caller
pub record HasAll (plan : Plan) (counters : Counters) (w : Work) : Type 0 where
  pub each : length counters ≡ callers plan
  pub queues : length w.machine ≡ callers plan
  pub hands : length w.hands ≡ callers plan
  pub answers : length w.answers ≡ callers plan

-- what a step that nothing refuses comes to
pub record SerialStep (plan : Plan) (start : Machine) (counters : Counters) (p : ℕ) (w : Work) (lines : List Line) (s : Step) (f : Option ℕ) : Type 0 where
  pub serial : IsSerial plan start (counted counters p) (works (home_for plan p s.op) w p s.op s.micro f) (lines ++ appends w p s.op s.micro f)
  pub commits : deeds_of (appends w p s.op s.micro f) ≡ option_to_list (committed f p s.op s.micro)
  pub hand : FitsHand w p s.op s.micro

pub serial_step : (plan : Plan) (start : Machine) (counters : Counters) (p : ℕ) (w : Work) (lines : List Line) (s : Step) (f : Option ℕ) → IsSound plan → length start ≡ callers plan
    → HasAll plan counters w → IsSerial plan start counters w lines → step_next plan counters p ≡ Some s → refused plan counters s.micro ≡ None
    → SerialStep plan start counters p w lines s f
serial_step plan start counters p w lines s f sound long all serial e free =
    let below : p < callers plan = is_caller plan counters p s e in
    let walk : Walk plan counters p = walking plan counters p sound all.each below in
    let here : Serial plan start counters p w lines s.op s.micro = record {
      sound = sound;
      each = all.each;
      serial = serial;
      at = record {
        seen = serial.seen;
        walk = walk;
        next = e;
        fits = subst (λ (o : Option Step). MatchOption o (walk.held ≡ []) (λ t. FitsWalk plan p walk.held t (step_next plan (counted counters p) p))) e walk.fits;
        counter = omega (arith, below, all.each);
        caller = below;
        long = length-machine_after plan.homes start (deeds_of lines) ∙ long;
        queues = all.queues;
        hands = all.hands;
        answers = all.answers;
      };
      free = free;
    } in
    record {
      serial = serial_by plan start counters p w lines s.op s.micro f here;
      commits = appended plan start counters p w lines s.op s.micro f here;
      hand = hand_fits plan start counters p w lines s.op s.micro here;
    }
