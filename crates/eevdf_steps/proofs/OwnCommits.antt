-- What a commit makes of the history, and of what the caller sees.
use Rattle.std.proofs.Common.{◌≡◌, ℕ, true, List, [], ◌∷◌, ◌++◌, length, set, sym, ap, subst, ◌∙◌, refl, arith}
use Rattle.std.proofs.lemmas.{Bool.eqb-true, Bool.eq-eqb, List.get_or-set_same, List.map-append}
use Rattle.std.proofs.Math.ListN.{length-set}
use Rattle.std.specs.Prelude.{◌==◌, Option, Some, None}
use Rattle.eevdf_queue.specs.State.{State, empty_state}
use Rattle.eevdf_ops.specs.{declared.deeds.Op.Op, declared.deeds.Deed.Deed, declared.deeds.Answer.Answer, declared.deeds.Line.Line}
use Rattle.eevdf_ops.specs.{Machine.Machine, Machine.queue_at, OneQueue.one_wake, Programs.deed_of, Histories.AreHistory}
use Rattle.eevdf_ops.specs.Histories.{machine_told}
use Rattle.eevdf_ops.specs.declared.deeds.Deed.TheVariants as deed
use Rattle.eevdf_ops.specs.Whole.{lines_of, machine_after, whole}
use Rattle.eevdf_ops.proofs.{LocalParts.others_stay, MachinePlaces.other_queue, WholePlaces.length-whole}
use Rattle.eevdf_steps.specs.{declared.micro.Micro.TheVariants.Commit, declared.micro.Micro.TheVariants.Settle, Plan.Plan}
use Rattle.eevdf_steps.specs.Serial.{begun_by}
use Rattle.eevdf_steps.specs.Work.{Work, answer, woken}
use Rattle.eevdf_steps.specs.Counters.{Counters, counted, holds, step_next}
use Rattle.eevdf_steps.specs.UnderWay.{KeepsAnswer, UnderWay, begun, hand_seen, queue_seen}
use Rattle.eevdf_steps.proofs.{Begun.holds_touched, OtherCallers.IsStepOf}
use Rattle.eevdf_steps.proofs.OwnSteps.{AtStep, begun_now, fresh_begun, sees_history, hand_empty, other_held, local_step}

lines_of-more : (homes : List ℕ) (m : Machine) (ds : List Deed) (d : Deed)
    → lines_of homes m (ds ++ d ∷ []) ≡ lines_of homes m ds ++ record { deed = d; answer = (whole homes d (machine_after homes m ds)).0 } ∷ []
lines_of-more homes m [] d = refl
lines_of-more homes m (e ∷ ds) d = ap (λ (ls : List Line). record { deed = e; answer = (whole homes e m).0 } ∷ ls) (lines_of-more homes (whole homes e m).1 ds d)

machine_after-more : (homes : List ℕ) (m : Machine) (ds : List Deed) (d : Deed) → machine_after homes m (ds ++ d ∷ []) ≡ (whole homes d (machine_after homes m ds)).1
machine_after-more homes m [] d = refl
machine_after-more homes m (e ∷ ds) d = machine_after-more homes (whole homes e m).1 ds d

pub length-machine_after : (homes : List ℕ) (m : Machine) (ds : List Deed) → length (machine_after homes m ds) ≡ length m
length-machine_after homes m [] = refl
length-machine_after homes m (d ∷ ds) = length-machine_after homes (whole homes d m).1 ds ∙ length-whole homes d m

-- a line is added, whose answer is that of the whole deed
pub machine_more : (homes : List ℕ) (start : Machine) (lines : List Line) (l : Line)
    → machine_told homes start (lines ++ l ∷ []) ≡ (whole homes l.deed (machine_told homes start lines)).1
machine_more homes start lines l = grind (arith, map-append, machine_after-more)

pub history_more : (homes : List ℕ) (start : Machine) (lines : List Line) (d : Deed) (a : Answer) → AreHistory homes start lines
    → a ≡ (whole homes d (machine_told homes start lines)).0 → AreHistory homes start (lines ++ record { deed = d; answer = a } ∷ [])
history_more homes start lines d a is e = grind (arith, lines_of-more, map-append)

module _ {plan : Plan} {counters : Counters} {p : ℕ} {m : Machine} {w : Work} {o : Op} (d : Deed) (at : AtStep plan counters p m w o Commit) (is : deed_of p o ≡ Some d) where
  done_now : begun_by plan counters p ≡ Some (record { deed = d; done = true })
  done_now = begun_now at ∙ ap (begun true) is

  -- a deed is committed that was done before
  pub commit_step : IsStepOf plan counters p m (whole plan.homes d m).1 w w
  commit_step =
      local_step at (whole plan.homes d m).1 w None (λ c b. refl) (fresh_begun p (step_next plan (counted counters p) p) at.fits.fresh) (length-whole plan.homes d m ∙ at.long)
      (λ c h. others_stay plan.homes d m c (sym (holds_touched plan counters p o d at.walk at.fits.covers is c) ∙ h)) (λ c h. refl)
      (λ c h. at.seen.held c p h ∙ ap (λ (u : Option UnderWay). queue_seen plan.homes m u c) done_now) (λ q h. refl) (λ q h. refl)
      (at.seen.hands p ∙ ap (λ (u : Option UnderWay). hand_seen plan.homes m u) done_now) tt

  -- the answer that is committed
  pub commit_answer : answer w p ≡ Some (whole plan.homes d m).0
  commit_answer = subst (λ (u : Option UnderWay). KeepsAnswer plan.homes m u (answer w p)) done_now (at.seen.answers p)

module _ {plan : Plan} {counters : Counters} {p q : ℕ} {m : Machine} {w : Work} {o : Op} (t : ℕ) (at : AtStep plan counters p m w o (Settle q))
    (covers : (c : ℕ) → holds plan counters c p ≡ (c == p)) where
  own_settles : holds plan counters p p ≡ true
  own_settles = covers p ∙ eq-eqb p p refl

  -- a request is settled on the caller's own queue
  pub settle_step : IsStepOf plan counters p m (whole plan.homes (deed.Wake p t q) m).1 w (woken w p t)
  settle_step =
      local_step at (set m p (one_wake (queue_at m p) t).1) (woken w p t) None (λ c b. refl) (fresh_begun p (step_next plan (counted counters p) p) at.fits.fresh)
      (length-set m p (one_wake (queue_at m p) t).1 ∙ at.long)
      (λ c h. other_queue m p c (one_wake (queue_at m p) t).1 (other_held plan counters p p c own_settles h))
      (λ c h. other_queue w.machine p c (one_wake (queue_at w.machine p) t).1 (other_held plan counters p p c own_settles h))
      (λ c h. subst (λ (k : ℕ). queue_at (set w.machine p (one_wake (queue_at w.machine p) t).1) k ≡ queue_at (set m p (one_wake (queue_at m p) t).1) k)
      (sym (eqb-true c p (sym (covers c) ∙ h)))
      (get_or-set_same w.machine p (one_wake (queue_at w.machine p) t).1 empty_state (omega (arith, at.caller, at.queues))
      ∙ ap (λ (x : State). (one_wake x t).1) (sees_history at refl p own_settles)
      ∙ sym (get_or-set_same m p (one_wake (queue_at m p) t).1 empty_state (omega (arith, at.caller, at.long)))))
      (λ r h. refl) (λ r h. refl) (hand_empty at refl) tt

  -- and answered as on the history
  pub settle_answer : (one_wake (queue_at w.machine p) t).0 ≡ (whole plan.homes (deed.Wake p t q) m).0
  settle_answer = ap (λ (x : State). (one_wake x t).0) (sees_history at refl p own_settles)
