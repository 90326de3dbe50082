-- Orders that are made place by place, each by the caller that a choice comes to.
use Rattle.std.proofs.Common.{◌≡◌, ℕ, zero, suc, ◌+◌, ◌-◌, ◌<◌, ◌≤◌, ◌⊎◌, inl, inr, List, [], ◌∷◌, ◌++◌, length, sym, ap, subst, ◌∙◌, arith, refl, add-one}
use Rattle.std.proofs.{Math.ListN.get_or-append, Math.ListN.length-append, Math.Seq.get_or-append_seam, Math.Seq.take-append_seam}
use Rattle.std.proofs.lemmas.List.{take-append-le}
use Rattle.rand_pcg.specs.Lcg.{Lcg, next_state, state_after}
use Rattle.rand_pcg.specs.Pcg.{multiplier_64}
use Rattle.rand_pcg.proofs.LcgLemmas.{advance_zero}
use Rattle.eevdf_steps.specs.{Plan.Plan, Plan.callers, Counters.Counters, Orders.counters_after, Orders.counters_at_start}
use Rattle.eevdf_steps.specs.Players.{Player}
use Rattle.eevdf_orders.specs.{declared.caller_choice.Choice.Choice, declared.caller_choice.Choice.TheVariants.InTurn}
use Rattle.eevdf_orders.specs.{declared.caller_choice.Choice.TheVariants.Drawn, CallerChoice.first_of, CallerChoice.next_of}
use Rattle.eevdf_orders.specs.{CallerSteps.IsNext, CallerSteps.IsStepFrom}
use Rattle.eevdf_orders.specs.ChosenOrders.{IsChosen, IsChosenAt, begins_with, choice_after, last_before}
use Rattle.eevdf_orders.proofs.PlacedOrders.{IsPlaced}

-- what a choice and the last caller have come to with an order
pub record IsChoosing (plan : Plan) (choice now : Choice) (order : List ℕ) (last : ℕ) : Type 0 where
  pub now_is : now ≡ choice_after (length order) choice
  pub last_is : last ≡ last_before (callers plan) order (length order)
  pub chosen : IsChosen plan choice order

-- ---- the choice

one_step_more : (w m p n s : ℕ) → next_state w m p (state_after w m p n s) ≡ state_after w m p (suc n) s
unfolding state_after
one_step_more w m p zero s = refl
one_step_more w m p (suc n) s = one_step_more w m p n (next_state w m p s)

choice_more : (k : ℕ) (c : Choice) → next_of (choice_after k c) ≡ choice_after (suc k) c
choice_more k InTurn = refl
choice_more k (Drawn g) = ap (λ (s : ℕ). Drawn (record g { state = s })) (one_step_more 64 multiplier_64 g.increment k g.state)

no_choice : (c : Choice) → c ≡ choice_after zero c
no_choice InTurn = refl
no_choice (Drawn g) = ap (λ (h : Lcg). Drawn h) (sym (advance_zero 64 multiplier_64 g))

-- ---- the places before the last

longer : (order : List ℕ) (p : ℕ) → length (order ++ p ∷ []) ≡ suc (length order)
longer order p = length-append order (p ∷ []) ∙ add-one (length order)

last_before_more : (n : ℕ) (order : List ℕ) (p k : ℕ) → k ≤ length order → last_before n (order ++ p ∷ []) k ≡ last_before n order k
last_before_more n order p zero within = refl
last_before_more n order p (suc k) within = get_or-append order (p ∷ []) 0 k (omega (arith, within))

begins_more : (choice : Choice) (n : ℕ) (order : List ℕ) (p k : ℕ) → k ≤ length order → begins_with choice n (order ++ p ∷ []) k ≡ begins_with choice n order k
begins_more choice n order p k within = ap (λ (last : ℕ). first_of (choice_after k choice) n last) (last_before_more n order p k within)

next_as : (plan : Plan) (cs ds : Counters) (e f p q : ℕ) → ds ≡ cs → f ≡ e → q ≡ p → IsNext plan cs e p → IsNext plan ds f q
next_as plan cs ds e f p q same_counters same_first same_caller next =
    subst (λ (c : Counters). IsNext plan c f q) (sym same_counters)
    (subst (λ (k : ℕ). IsNext plan cs k q) (sym same_first) (subst (λ (k : ℕ). IsNext plan cs e k) (sym same_caller) next))

earlier_place : (plan : Plan) (choice : Choice) (order : List ℕ) (p k : ℕ) → k < length order → IsChosenAt plan choice order k → IsChosenAt plan choice (order ++ p ∷ []) k
earlier_place plan choice order p k within chosen =
    next_as plan _ _ _ _ _ _
    (ap (λ (places : List ℕ). counters_after (counters_at_start plan) places) (take-append-le k order (p ∷ []) (omega (arith, within))))
    (begins_more choice (callers plan) order p k (omega (arith, within)))
    (get_or-append order (p ∷ []) 0 k within) chosen

last_place : (plan : Plan) (choice : Choice) (order : List ℕ) (p k : ℕ) → k ≡ length order
    → IsNext plan (counters_after (counters_at_start plan) order) (begins_with choice (callers plan) order (length order)) p → IsChosenAt plan choice (order ++ p ∷ []) k
last_place plan choice order p k same next =
    subst (λ (j : ℕ). IsChosenAt plan choice (order ++ p ∷ []) j) (sym same)
    (next_as plan _ _ _ _ _ _
    (ap (λ (places : List ℕ). counters_after (counters_at_start plan) places) (take-append_seam order (p ∷ [])))
    (begins_more choice (callers plan) order p (length order) (omega arith))
    (get_or-append_seam order p [] 0) next)

split : (k n : ℕ) → k < n + 1 → (k < n) ⊎ (k ≡ n)
split k n h = grind arith

chosen_more : (plan : Plan) (choice : Choice) (order : List ℕ) (p : ℕ) → IsChosen plan choice order
    → IsNext plan (counters_after (counters_at_start plan) order) (begins_with choice (callers plan) order (length order)) p → IsChosen plan choice (order ++ p ∷ [])
chosen_more plan choice order p chosen next k within =
    elim (split k (length order) (omega (arith, within, length-append order (p ∷ [])))) [
      | inl earlier ↦ earlier_place plan choice order p k earlier (chosen k earlier)
      | inr same ↦ last_place plan choice order p k same next
    ]

-- ---- what the code has of it

pub choosing_first : (plan : Plan) (choice : Choice) (count : ℕ) → count ≡ callers plan → IsChoosing plan choice choice [] (count - 1)
choosing_first plan choice count all = record {
  now_is = no_choice choice;
  last_is = ap (λ (n : ℕ). n - 1) all;
  chosen = λ k within. absurd (omega (arith, within));
}

-- the caller that was found, by the places of the order
found_next : (plan : Plan) (choice now : Choice) (order : List ℕ) (last count first p : ℕ) (a b : Player) → IsChoosing plan choice now order last → IsPlaced plan a order
    → IsStepFrom a first p b → first ≡ first_of now count last → count ≡ callers plan
    → IsNext plan (counters_after (counters_at_start plan) order) (begins_with choice (callers plan) order (length order)) p
found_next plan choice now order last count first p a b choosing placed stepped e all =
    let by_count : first_of now count last ≡ first_of now (callers plan) last = ap (λ (n : ℕ). first_of now n last) all in
    let by_now : first_of now (callers plan) last ≡ first_of (choice_after (length order) choice) (callers plan) last
    = ap (λ (c : Choice). first_of c (callers plan) last) choosing.now_is in
    let by_last : first_of (choice_after (length order) choice) (callers plan) last ≡ begins_with choice (callers plan) order (length order)
    = ap (λ (k : ℕ). first_of (choice_after (length order) choice) (callers plan) k) choosing.last_is in
    let there : IsNext plan a.state.progress.counters first p = subst (λ (pl : Plan). IsNext pl a.state.progress.counters first p) placed.plan_is stepped.next in
    next_as plan _ _ _ _ _ _ (sym placed.counters) (sym (e ∙ by_count ∙ by_now ∙ by_last)) refl there

pub choosing_more : (plan : Plan) (choice now later : Choice) (order : List ℕ) (last count first p : ℕ) (a b : Player) → IsChoosing plan choice now order last
    → IsPlaced plan a order → IsStepFrom a first p b → first ≡ first_of now count last → later ≡ next_of now → count ≡ callers plan
    → IsChoosing plan choice later (order ++ p ∷ []) p
choosing_more plan choice now later order last count first p a b choosing placed stepped e step all = record {
  now_is =
      step ∙ ap (λ (c : Choice). next_of c) choosing.now_is ∙ choice_more (length order) choice
      ∙ ap (λ (k : ℕ). choice_after k choice) (sym (longer order p));
  last_is =
      sym (ap (λ (k : ℕ). last_before (callers plan) (order ++ p ∷ []) k) (longer order p) ∙ get_or-append_seam order p [] 0);
  chosen = chosen_more plan choice order p choosing.chosen (found_next plan choice now order last count first p a b choosing placed stepped e all);
}
