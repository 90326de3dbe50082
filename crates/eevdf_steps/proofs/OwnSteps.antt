-- What a step of a caller makes of the queues that it holds, of its hand and of its answer.
use Rattle.std.proofs.Common.{◌≡◌, ◌≢◌, inl, inr, ℕ, ◌<◌, Bool, true, false, cond, List, length, sym, ap, subst, ◌∙◌, refl, arith}
use Rattle.std.proofs.lemmas.Bool.{false≢true, cases_Bool, cases_eq, ne_eqb}
use Rattle.std.specs.Prelude.{◌==◌, Option, Some, None}
use Rattle.eevdf_ops.specs.{declared.deeds.Op.Op, declared.deeds.Answer.Answer, Machine.Machine, Machine.queue_at}
use Rattle.eevdf_steps.specs.{declared.micro.Micro.Micro, declared.plan.Step.Step, Plan.Plan, Plan.callers}
use Rattle.eevdf_steps.specs.Work.{Work, answer, hand}
use Rattle.eevdf_steps.specs.declared.micro.Micro.TheVariants.{Acquire, Attach, Commit, Release}
use Rattle.eevdf_steps.specs.Counters.{Counters, counted, held_after, holds, step_next}
use Rattle.eevdf_steps.specs.UnderWay.{KeepsAnswer, UnderWay, hand_seen, queue_seen, under_way, under_way_before}
use Rattle.eevdf_steps.specs.Serial.{IsFree, FollowsHistory, begun_by}
use Rattle.eevdf_steps.proofs.{Holders.holds_own, Positions.step_in, OtherCallers.IsStepOf}
use Rattle.eevdf_steps.proofs.Walks.{FitsMicro, Walk, is_fresh, is_fresh_micro}

-- a caller before its next step, on the machine of the history
pub record AtStep (plan : Plan) (counters : Counters) (p : ℕ) (m : Machine) (w : Work) (o : Op) (micro : Micro) : Type 0 where
  pub seen : FollowsHistory plan m counters w
  pub walk : Walk plan counters p
  pub next : step_next plan counters p ≡ Some (step_in o micro)
  pub fits : FitsMicro plan p walk.held o micro (step_next plan (counted counters p) p)
  pub counter : p < length counters
  pub caller : p < callers plan
  pub long : length m ≡ callers plan
  pub queues : length w.machine ≡ callers plan
  pub hands : length w.hands ≡ callers plan
  pub answers : length w.answers ≡ callers plan

-- after the step nothing is under way
fresh_micro : (p : ℕ) (o : Op) (micro : Micro) → is_fresh_micro micro ≡ true → under_way_before p o micro ≡ None
fresh_micro p o Attach e = absurd (false≢true e)
fresh_micro p o Commit e = absurd (false≢true e)
fresh_micro p o _ e = refl

pub fresh_begun : (p : ℕ) (o : Option Step) → is_fresh o ≡ true → under_way p o ≡ None
fresh_begun p None e = refl
fresh_begun p (Some s) e = fresh_micro p s.op s.micro e

pub no_answer : (homes : List ℕ) (m : Machine) (u : Option UnderWay) (a : Option Answer) → u ≡ None → KeepsAnswer homes m u a
no_answer homes m u a e = subst (λ (v : Option UnderWay). KeepsAnswer homes m v a) (sym e) tt

-- a lock that a caller doesn't hold isn't one that it holds
pub other_held : (plan : Plan) (counters : Counters) (p k c : ℕ) → holds plan counters k p ≡ true → holds plan counters c p ≡ false → c ≢ k
other_held plan counters p k c own h same = false≢true (sym h ∙ ap (λ (i : ℕ). holds plan counters i p) same ∙ own)

-- a step that leaves the locks as they are
abbrev pub KeepsLocks : Micro → Type 0
KeepsLocks micro = (c : ℕ) (b : Bool) → held_after c b micro ≡ b

given_up : (b : Bool) → cond b false false ≡ false
given_up true = refl
given_up false = refl

module _ {plan : Plan} {counters : Counters} {p : ℕ} {m : Machine} {w : Work} {o : Op} {micro : Micro} (at : AtStep plan counters p m w o micro) where
  -- what is under way before the step itself
  pub begun_now : begun_by plan counters p ≡ under_way_before p o micro
  begun_now = ap (λ (n : Option Step). under_way p n) at.next

  fresh_now : is_fresh_micro micro ≡ true → begun_by plan counters p ≡ None
  fresh_now fresh = begun_now ∙ fresh_micro p o micro fresh

  -- before a step of which nothing is under way the caller sees the history
  pub sees_history : is_fresh_micro micro ≡ true → (c : ℕ) → holds plan counters c p ≡ true → queue_at w.machine c ≡ queue_at m c
  sees_history fresh c held = at.seen.held c p held ∙ ap (λ (u : Option UnderWay). queue_seen plan.homes m u c) (fresh_now fresh)

  pub hand_empty : is_fresh_micro micro ≡ true → hand w p ≡ None
  hand_empty fresh = at.seen.hands p ∙ ap (λ (u : Option UnderWay). hand_seen plan.homes m u) (fresh_now fresh)

  held_next : (c : ℕ) → holds plan (counted counters p) c p ≡ held_after c (holds plan counters c p) micro
  held_next c = holds_own plan counters c p (step_in o micro) at.counter at.next

  same_locks : KeepsLocks micro → (c : ℕ) → holds plan (counted counters p) c p ≡ holds plan counters c p
  same_locks keep c = held_next c ∙ keep c (holds plan counters c p)

  -- a step that leaves the locks as they are
  pub local_step : (m' : Machine) (w' : Work) (u : Option UnderWay) → KeepsLocks micro → begun_by plan (counted counters p) p ≡ u → length m' ≡ callers plan
      → ((c : ℕ) → holds plan counters c p ≡ false → queue_at m' c ≡ queue_at m c)
      → ((c : ℕ) → holds plan counters c p ≡ false → queue_at w'.machine c ≡ queue_at w.machine c)
      → ((c : ℕ) → holds plan counters c p ≡ true → queue_at w'.machine c ≡ queue_seen plan.homes m' u c)
      → ((q : ℕ) → q ≢ p → hand w' q ≡ hand w q) → ((q : ℕ) → q ≢ p → answer w' q ≡ answer w q)
      → hand w' p ≡ hand_seen plan.homes m' u → KeepsAnswer plan.homes m' u (answer w' p) → IsStepOf plan counters p m m' w w'
  local_step m' w' u keep now long past stay own hands answers own_hand own_answer = grind (arith, same_locks)

  -- nothing is done on the queues, and nothing is under way before or after
  fresh_step : is_fresh_micro micro ≡ true → begun_by plan (counted counters p) p ≡ None
      → ((c : ℕ) → holds plan counters c p ≡ false → held_after c false micro ≡ true → IsFree plan counters c) → IsStepOf plan counters p m m w w
  fresh_step fresh after free =
      let acquired : (c : ℕ) → holds plan counters c p ≡ false → holds plan (counted counters p) c p ≡ true → IsFree plan counters c
      = λ c h k. free c h (sym (held_next c ∙ ap (λ (b : Bool). held_after c b micro) h) ∙ k) in
      record {
        long = at.long;
        still_long = at.long;
        stay = λ c h. refl;
        past = λ c h. refl;
        hands = λ q h. refl;
        answers = λ q h. refl;
        own = λ c h. elim (cases_Bool (holds plan counters c p)) [
          | inl held ↦ sees_history fresh c held
          | inr other ↦ at.seen.free c (acquired c other h)
        ] ∙ ap (λ (u : Option UnderWay). queue_seen plan.homes m u c) (sym after);
        own_hand = hand_empty fresh ∙ ap (λ (u : Option UnderWay). hand_seen plan.homes m u) (sym after);
        own_answer = no_answer plan.homes m (begun_by plan (counted counters p) p) (answer w p) after;
        released = λ c h k. sees_history fresh c h;
        acquired = acquired;
      }

  pub quiet_step : is_fresh_micro micro ≡ true → KeepsLocks micro → begun_by plan (counted counters p) p ≡ None → IsStepOf plan counters p m m w w
  quiet_step fresh keep after = fresh_step fresh after (λ c h k. absurd (false≢true (sym (keep c false) ∙ k)))

module _ {plan : Plan} {counters : Counters} {p c : ℕ} {m : Machine} {w : Work} {o : Op} where
  -- a lock is acquired that nobody holds
  pub acquire_step : AtStep plan counters p m w o (Acquire c) → IsFree plan counters c → IsStepOf plan counters p m m w w
  acquire_step at free = fresh_step at refl (fresh_begun p (step_next plan (counted counters p) p) at.fits.fresh) (λ k h i.
      elim (cases_eq c k) [
        | inl same ↦ subst (IsFree plan counters) same free
        | inr apart ↦ absurd (false≢true (ap (λ (b : Bool). cond b true false) (sym (ne_eqb c k apart)) ∙ i))
      ])

  -- a lock is given up
  pub release_step : AtStep plan counters p m w o (Release c) → IsStepOf plan counters p m m w w
  release_step at = fresh_step at refl (fresh_begun p (step_next plan (counted counters p) p) at.fits.fresh)
      (λ k h i. absurd (false≢true (sym (given_up (c == k)) ∙ i)))
