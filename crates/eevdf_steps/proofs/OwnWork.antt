-- What the caller's work on the queues comes to, seen from the machine of the history.
use Rattle.std.proofs.Common.{◌≡◌, ◌≢◌, ℕ, ◌<◌, true, false, cond, List, length, set, sym, ap, subst, ◌∙◌, refl, arith}
use Rattle.std.proofs.lemmas.{Bool.eqb-true, Bool.eq-eqb, Bool.ne_eqb, List.get_or-set_same, List.get_or-set_other}
use Rattle.std.specs.Prelude.{◌==◌, IfSome, Option, Some, None, Result}
use Rattle.std.specs.Result.{result_ok}
use Rattle.eevdf_queue.specs.State.{State, Contents, empty_state}
use Rattle.eevdf_queue.specs.{Moves.sleeper_of, Placing.can_place}
use Rattle.eevdf_ops.specs.{declared.deeds.Op.Op, declared.deeds.Deed.Deed, declared.deeds.Answer.Answer}
use Rattle.eevdf_ops.specs.{declared.halves.Putting.Putting, Halves.after_putting, Machine.Machine}
use Rattle.eevdf_ops.specs.{Machine.queue_at, Programs.deed_of, Whole.whole}
use Rattle.eevdf_ops.specs.declared.deeds.Op.TheVariants as op
use Rattle.eevdf_ops.specs.declared.deeds.Deed.TheVariants as deed
use Rattle.eevdf_ops.specs.declared.halves.Taking.TheVariants as taking
use Rattle.eevdf_ops.specs.Parts.{after_leaving, answer_of_pull, giver, only_at}
use Rattle.eevdf_ops.specs.WholePull.{decision, load_of, offer, pull_decision, task_of}
use Rattle.eevdf_ops.proofs.LocalParts.{changed, taken_ok}
use Rattle.eevdf_ops.proofs.{MachinePlaces.other_queue, Pulling.IsDecided, Pulling.decided}
use Rattle.eevdf_steps.specs.declared.micro.Micro.TheVariants.{Act, Detach, Attach}
use Rattle.eevdf_steps.specs.Plan.{Plan, callers}
use Rattle.eevdf_steps.specs.Counters.{Counters, counted, holds}
use Rattle.eevdf_steps.specs.{declared.plan.Step.Step, Serial.begun_by}
use Rattle.eevdf_steps.specs.UnderWay.{KeepsAnswer, UnderWay, begun, hand_seen, leaves, queue_seen, under_way}
use Rattle.eevdf_steps.specs.Work.{Work, acted, answer, detached, hand, put_in, take_out}
use Rattle.eevdf_steps.proofs.OtherCallers.{IsStepOf}
use Rattle.eevdf_steps.proofs.OwnSteps.{AtStep, begun_now, local_step, sees_history, hand_empty, other_held}

-- the deed is done on the caller's own queue alone
abbrev pub ActsThere : List ℕ → Machine → ℕ → Deed → (State → Answer × State) → Type 0
ActsThere homes m p d f = ((whole homes d m).0 ≡ (f (queue_at m p)).0) × ((whole homes d m).1 ≡ set m p (f (queue_at m p)).1)

module _ {plan : Plan} {counters : Counters} {p : ℕ} {m : Machine} {w : Work} where
  pub acted_step : {o : Op} (d : Deed) (f : State → Answer × State) → AtStep plan counters p m w o Act → ((c : ℕ) → holds plan counters c p ≡ (c == p))
      → begun_by plan (counted counters p) p ≡ Some (record { deed = d; done = true }) → ActsThere plan.homes m p d f
      → IsStepOf plan counters p m m w (acted w p (f (queue_at w.machine p)))
  acted_step d f at covers now there =
      let own : holds plan counters p p ≡ true = covers p ∙ eq-eqb p p refl in
      let here : queue_at w.machine p ≡ queue_at m p = sees_history at refl p own in
      local_step at m (acted w p (f (queue_at w.machine p))) (Some (record { deed = d; done = true })) (λ c b. refl) now at.long (λ c h. refl)
      (λ c h. other_queue w.machine p c (f (queue_at w.machine p)).1 (other_held plan counters p p c own h))
      (λ c h. subst (λ (k : ℕ). queue_at (set w.machine p (f (queue_at w.machine p)).1) k ≡ queue_at (whole plan.homes d m).1 k) (sym (eqb-true c p (sym (covers c) ∙ h)))
      (get_or-set_same w.machine p (f (queue_at w.machine p)).1 empty_state (omega (arith, at.caller, at.queues))
      ∙ ap (λ (q : State). (f q).1) here
      ∙ sym (get_or-set_same m p (f (queue_at m p)).1 empty_state (omega (arith, at.caller, at.long)))
      ∙ ap (λ (n : Machine). queue_at n p) (sym there.1)))
      (λ q h. refl)
      (λ q h. get_or-set_other w.answers p q (Some (f (queue_at w.machine p)).0) None h)
      (hand_empty at refl)
      (get_or-set_same w.answers p (Some (f (queue_at w.machine p)).0) None (omega (arith, at.caller, at.answers))
      ∙ ap (λ (q : State). Some (f q).0) here ∙ ap (λ (a : Answer). Some a) (sym there.0))

  -- a detach takes the task that leaves into the hand, where one does
  left_step : {o : Op} (d : Deed) (r : Option Contents) (a : Answer) → AtStep plan counters p m w o Detach
      → begun_by plan (counted counters p) p ≡ Some (record { deed = d; done = false }) → holds plan counters (giver d) p ≡ true → giver d < length w.machine
      → (whole plan.homes d m).0 ≡ a → leaves plan.homes m d ≡ r → IsStepOf plan counters p m m w (detached w p (giver d) a r)
  left_step d r a at now own below answers leaves_it =
      local_step at m (detached w p (giver d) a r) (Some (record { deed = d; done = false })) (λ c b. refl) now at.long (λ c h. refl)
      (λ c h. other_queue w.machine (giver d) c (after_leaving r (queue_at w.machine (giver d))) (other_held plan counters p (giver d) c own h))
      (λ c h. changed (after_leaving r) w.machine (giver d) c below
      ∙ ap (λ (q : State). only_at (giver d) c (after_leaving r) q) (sees_history at refl c h)
      ∙ ap (λ (y : Option Contents). only_at (giver d) c (after_leaving y) (queue_at m c)) (sym leaves_it))
      (λ q h. get_or-set_other w.hands p q r None h)
      (λ q h. get_or-set_other w.answers p q (Some a) None h)
      (get_or-set_same w.hands p r None (omega (arith, at.caller, at.hands)) ∙ sym leaves_it)
      (get_or-set_same w.answers p (Some a) None (omega (arith, at.caller, at.answers)) ∙ ap (λ (y : Answer). Some y) (sym answers))

  -- the task of a sleep or of an end, which leaves the caller's own queue
  pub own_leaves : {o : Op} (d : Deed) (r : Option Contents) (says : Option Contents → Answer) → AtStep plan counters p m w o Detach
      → begun_by plan (counted counters p) p ≡ Some (record { deed = d; done = false }) → giver d ≡ p → holds plan counters p p ≡ true
      → (whole plan.homes d m).0 ≡ says (leaves plan.homes m d) → leaves plan.homes m d ≡ r → IsStepOf plan counters p m m w (detached w p (giver d) (says r) r)
  own_leaves d r says at now is own answers e =
      left_step d r (says r) at now (ap (λ (c : ℕ). holds plan counters c p) is ∙ own) (omega (arith, at.caller, at.queues, is)) (answers ∙ ap says e) e

  -- the task that is pulled
  pub pull_leaves : (s : ℕ) → AtStep plan counters p m w (op.Pull s) Detach
      → begun_by plan (counted counters p) p ≡ Some (record { deed = deed.Pull p s; done = false }) → holds plan counters p p ≡ true → holds plan counters s p ≡ true → s < callers plan
      → IsStepOf plan counters p m m w (take_out w p s (taking.Pull (task_of (pull_decision w.machine p s))))
  pull_leaves s at now own source below =
      let q : State = queue_at w.machine p in
      let r : State = queue_at w.machine s in
      let is : IsDecided q r (decision q (load_of r) (offer r)) = decided q r in
      let same : pull_decision m p s ≡ decision q (load_of r) (offer r) =
      ap (λ (x : State). decision x (load_of (queue_at m s)) (offer (queue_at m s))) (sym (sees_history at refl p own))
      ∙ ap (λ (x : State). decision q (load_of x) (offer x)) (sym (sees_history at refl s source)) in
      left_step (deed.Pull p s) _ _ at now source (omega (arith, below, at.queues)) (ap answer_of_pull same ∙ sym (is.answer _))
      (taken_ok (queue_at m p) (queue_at m s) (pull_decision m p s) refl ∙ ap (λ (d : Result Contents Answer). result_ok d) same ∙ sym is.parcel)

-- what is under way before an attach is seen in the queues and in the hand
pub record AtAttach (plan : Plan) (counters : Counters) (p : ℕ) (m : Machine) (w : Work) (o : Op) (d : Deed) : Type 0 where
  pub at : AtStep plan counters p m w o Attach
  pub now : begun_by plan (counted counters p) p ≡ Some (record { deed = d; done = true })
  pub hand_is : hand w p ≡ leaves plan.homes m d
  pub answer_is : answer w p ≡ Some (whole plan.homes d m).0
  pub queues_are : (c : ℕ) → holds plan counters c p ≡ true → queue_at w.machine c ≡ only_at (giver d) c (after_leaving (leaves plan.homes m d)) (queue_at m c)

module _ {plan : Plan} {counters : Counters} {p : ℕ} {m : Machine} {w : Work} where
  pub at_attach : {o : Op} (d : Deed) → AtStep plan counters p m w o Attach → deed_of p o ≡ Some d → AtAttach plan counters p m w o d
  at_attach d at is =
      let under : begun_by plan counters p ≡ Some (record { deed = d; done = false }) = begun_now at ∙ ap (begun false) is in
      record {
        at = at;
        now = ap (λ (n : Option Step). under_way p n) at.fits.follows ∙ ap (begun true) is;
        hand_is = at.seen.hands p ∙ ap (λ (u : Option UnderWay). hand_seen plan.homes m u) under;
        answer_is = subst (λ (u : Option UnderWay). KeepsAnswer plan.homes m u (answer w p)) under (at.seen.answers p);
        queues_are = λ c h. at.seen.held c p h ∙ ap (λ (u : Option UnderWay). queue_seen plan.homes m u c) under;
      }

  -- the task in hand, where there is one, is put into a queue that the caller holds
  pub put_step : {o : Op} (k : ℕ) (how : Putting) (d : Deed) → AtAttach plan counters p m w o d → holds plan counters k p ≡ true → k < callers plan
      → ((c : ℕ) → queue_at (whole plan.homes d m).1 c
      ≡ only_at k c (after_putting how (leaves plan.homes m d)) (only_at (giver d) c (after_leaving (leaves plan.homes m d)) (queue_at m c)))
      → IsStepOf plan counters p m m w (put_in w p k how (hand w p))
  put_step k how d a own below whole_is =
      local_step a.at m (put_in w p k how (hand w p)) (Some (record { deed = d; done = true })) (λ c b. refl) a.now a.at.long
      (λ c h. refl) (λ c h. other_queue w.machine k c (after_putting how (hand w p) (queue_at w.machine k)) (other_held plan counters p k c own h))
      (λ c h. changed (after_putting how (hand w p)) w.machine k c (omega (arith, below, a.at.queues))
      ∙ ap (λ (x : Option Contents). only_at k c (after_putting how x) (queue_at w.machine c)) a.hand_is
      ∙ ap (λ (q : State). only_at k c (after_putting how (leaves plan.homes m d)) q) (a.queues_are c h) ∙ sym (whole_is c))
      (λ q h. get_or-set_other w.hands p q None None h) (λ q h. refl)
      (get_or-set_same w.hands p None None (omega (arith, a.at.caller, a.at.hands))) a.answer_is

  -- where the caller pulls, its queue has room for the task in hand
  pub room_then : (s : ℕ) (h : Option Contents) → AtAttach plan counters p m w (op.Pull s) (deed.Pull p s) → holds plan counters p p ≡ true → s ≢ p
      → leaves plan.homes m (deed.Pull p s) ≡ h → IfSome h (λ (x : Contents). can_place (queue_at w.machine p) (sleeper_of x) ≡ true)
  room_then s h a own apart e =
      let other : (p == s) ≡ false = ne_eqb p s (λ e. apart (sym e)) in
      let same : queue_at w.machine p ≡ queue_at m p =
      a.queues_are p own ∙ ap (λ b. cond b (after_leaving (leaves plan.homes m (deed.Pull p s)) (queue_at m p)) (queue_at m p)) other in
      subst (λ (q : State). IfSome h (λ (x : Contents). can_place q (sleeper_of x) ≡ true)) (sym same)
      (subst (λ (y : Option Contents). IfSome y (λ (x : Contents). can_place (queue_at m p) (sleeper_of x) ≡ true))
      (sym (taken_ok (queue_at m p) (queue_at m s) (pull_decision m p s) refl) ∙ e) (decided (queue_at m p) (queue_at m s)).room)
