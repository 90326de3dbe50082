-- A step of one caller leaves all others as they are, and what they see.
use Rattle.std.proofs.Common.{◌≡◌, ◌≢◌, ℕ, ◌+◌, Bool, true, false, length, sym, ap, subst, ◌∙◌, inl, inr, refl, arith}
use Rattle.std.proofs.lemmas.Bool.{false≢true, cases_eq, false_from_ne_true}
use Rattle.std.proofs.lemmas.List.{get_or-set_other}
use Rattle.std.specs.Prelude.{slice_get, Option, Some, None}
use Rattle.eevdf_ops.specs.{declared.deeds.Answer.Answer, Machine.Machine, Machine.queue_at}
use Rattle.eevdf_steps.specs.{declared.plan.Step.Step, Plan.Plan, Plan.callers, MicroSteps.steps_by}
use Rattle.eevdf_steps.specs.Work.{Work, answer, hand}
use Rattle.eevdf_steps.specs.Counters.{Counters, count_of, counted, holds, step_next}
use Rattle.eevdf_steps.specs.UnderWay.{KeepsAnswer, UnderWay, hand_seen, queue_seen, under_way}
use Rattle.eevdf_steps.specs.Serial.{IsFree, FollowsHistory, begun_by}
use Rattle.eevdf_steps.proofs.{Holders.holds_other, Walks.Walk}
use Rattle.eevdf_steps.proofs.Begun.{FitsAll, SeenAlike, Standing, seen_alike, standing}

pub next_other : (plan : Plan) (counters : Counters) (p q : ℕ) → q ≢ p → step_next plan (counted counters p) q ≡ step_next plan counters q
next_other plan counters p q apart = ap (λ (k : ℕ). slice_get (steps_by plan q) k) (get_or-set_other counters p q (count_of counters p + 1) 0 apart)

-- what a step of a caller does to the queues, the hands and the answers, where the history goes from one machine to
-- another
pub record IsStepOf (plan : Plan) (counters : Counters) (p : ℕ) (m m' : Machine) (w w' : Work) : Type 0 where
  pub long : length m ≡ callers plan
  pub still_long : length m' ≡ callers plan
  pub stay : (c : ℕ) → holds plan counters c p ≡ false → queue_at w'.machine c ≡ queue_at w.machine c
  pub past : (c : ℕ) → holds plan counters c p ≡ false → queue_at m' c ≡ queue_at m c
  pub hands : (q : ℕ) → q ≢ p → hand w' q ≡ hand w q
  pub answers : (q : ℕ) → q ≢ p → answer w' q ≡ answer w q
  pub own : (c : ℕ) → holds plan (counted counters p) c p ≡ true → queue_at w'.machine c ≡ queue_seen plan.homes m' (begun_by plan (counted counters p) p) c
  pub own_hand : hand w' p ≡ hand_seen plan.homes m' (begun_by plan (counted counters p) p)
  pub own_answer : KeepsAnswer plan.homes m' (begun_by plan (counted counters p) p) (answer w' p)
  pub released : (c : ℕ) → holds plan counters c p ≡ true → holds plan (counted counters p) c p ≡ false → queue_at w'.machine c ≡ queue_at m' c
  pub acquired : (c : ℕ) → holds plan counters c p ≡ false → holds plan (counted counters p) c p ≡ true → IsFree plan counters c

-- what is known of the callers on their way
pub record AreWalking (plan : Plan) (counters : Counters) : Type 0 where
  pub walks : (q : ℕ) (u : UnderWay) → begun_by plan counters q ≡ Some u → Walk plan counters q
  pub fits : (q : ℕ) (u : UnderWay) → begun_by plan counters q ≡ Some u → FitsAll plan u.deed

-- what a caller sees, on two machines
record AreAlike (plan : Plan) (counters : Counters) (q : ℕ) (m n : Machine) (o : Option UnderWay) : Type 0 where
  queues : (c : ℕ) → holds plan counters c q ≡ true → queue_seen plan.homes m o c ≡ queue_seen plan.homes n o c
  hand : hand_seen plan.homes m o ≡ hand_seen plan.homes n o
  answer : (a : Option Answer) → KeepsAnswer plan.homes m o a → KeepsAnswer plan.homes n o a

begun_other : (plan : Plan) (counters : Counters) (p q : ℕ) → q ≢ p → begun_by plan (counted counters p) q ≡ begun_by plan counters q
begun_other plan counters p q apart = ap (λ (o : Option Step). under_way q o) (next_other plan counters p q apart)

module _ {plan : Plan} {counters : Counters} {p : ℕ} {m m' : Machine} {w w' : Work} (r : FollowsHistory plan m counters w) (s : IsStepOf plan counters p m m' w w') where
  not_held : (c q : ℕ) → q ≢ p → holds plan counters c q ≡ true → holds plan counters c p ≡ false
  not_held c q apart held = false_from_ne_true (holds plan counters c p) (λ own. apart (r.alone c q p held own))

  others_alike : AreWalking plan counters → (q : ℕ) (o : Option UnderWay) → begun_by plan counters q ≡ o → q ≢ p → AreAlike plan counters q m m' o
  others_alike walking q None e apart = record { queues = λ c held. sym (s.past c (not_held c q apart held)); hand = refl; answer = λ a k. k }
  others_alike walking q (Some u) e apart =
      let st : Standing plan counters q u = standing plan counters q u (walking.walks q u e) e in
      let fits : FitsAll plan u.deed = walking.fits q u e in
      let alike : SeenAlike plan.homes u m m' = seen_alike plan.homes u m m' (fits m s.long) (fits m' s.still_long)
      (λ c t. sym (s.past c (not_held c q apart (st.holds_all c ∙ t)))) in
      record {
        queues = λ c held. alike.queues c (sym (st.holds_all c) ∙ held);
        hand = alike.hand;
        answer = λ a k. k ∙ ap (λ (b : Answer). Some b) alike.answer;
      }

  held_then : AreWalking plan counters → (c q : ℕ) → holds plan (counted counters p) c q ≡ true
      → queue_at w'.machine c ≡ queue_seen plan.homes m' (begun_by plan (counted counters p) q) c
  held_then walking c q h = grind (arith, holds_other, not_held, others_alike, begun_other)

  hands_then : AreWalking plan counters → (q : ℕ) → hand w' q ≡ hand_seen plan.homes m' (begun_by plan (counted counters p) q)
  hands_then walking q =
      elim (cases_eq q p) [
        | inl same ↦ subst (λ (k : ℕ). hand w' k ≡ hand_seen plan.homes m' (begun_by plan (counted counters p) k)) (sym same) s.own_hand
        | inr apart ↦ s.hands q apart ∙ r.hands q ∙ (others_alike walking q (begun_by plan counters q) refl apart).hand
            ∙ ap (λ (o : Option UnderWay). hand_seen plan.homes m' o) (sym (begun_other plan counters p q apart))
      ]

  answers_then : AreWalking plan counters → (q : ℕ) → KeepsAnswer plan.homes m' (begun_by plan (counted counters p) q) (answer w' q)
  answers_then walking q =
      elim (cases_eq q p) [
        | inl same ↦ subst (λ (k : ℕ). KeepsAnswer plan.homes m' (begun_by plan (counted counters p) k) (answer w' k)) (sym same) s.own_answer
        | inr apart ↦
            subst (λ (o : Option UnderWay). KeepsAnswer plan.homes m' o (answer w' q)) (sym (begun_other plan counters p q apart))
            (subst (λ (a : Option Answer). KeepsAnswer plan.homes m' (begun_by plan counters q) a) (sym (s.answers q apart))
            ((others_alike walking q (begun_by plan counters q) refl apart).answer (answer w q) (r.answers q)))
      ]

  -- a queue that nobody holds any more
  free_by : (c : ℕ) (b : Bool) → IsFree plan (counted counters p) c → holds plan counters c p ≡ b → queue_at w'.machine c ≡ queue_at m' c
  free_by c true free e = s.released c e (free p)
  free_by c false free e = grind (arith, holds_other)

  -- nobody else holds what the caller holds
  alone_by : (c q : ℕ) (b : Bool) → holds plan (counted counters p) c q ≡ true → holds plan (counted counters p) c p ≡ true → holds plan counters c p ≡ b → q ≢ p → q ≡ p
  alone_by c q true h k e apart = r.alone c q p (sym (holds_other plan counters c p q apart) ∙ h) e
  alone_by c q false h k e apart = absurd (false≢true (sym (s.acquired c e k q) ∙ sym (holds_other plan counters c p q apart) ∙ h))

  alone_with : (c q : ℕ) → holds plan (counted counters p) c q ≡ true → holds plan (counted counters p) c p ≡ true → q ≡ p
  alone_with c q h k = elim (cases_eq q p) [ inl same ↦ same | inr apart ↦ alone_by c q (holds plan counters c p) h k refl apart ]

  alone_then : (c q o : ℕ) → holds plan (counted counters p) c q ≡ true → holds plan (counted counters p) c o ≡ true → q ≡ o
  alone_then c q o h k = grind (arith, alone_with, holds_other)

  pub followed_then : AreWalking plan counters → FollowsHistory plan m' (counted counters p) w'
  followed_then walking = record {
    alone = alone_then;
    free = λ c free. free_by c (holds plan counters c p) free refl;
    held = held_then walking;
    hands = hands_then walking;
    answers = answers_then walking;
  }
