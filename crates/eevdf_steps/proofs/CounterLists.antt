-- Positions of several callers, and their counters.
use Rattle.std.proofs.Common.{◌≡◌, ℕ, zero, suc, ◌+◌, ◌<◌, List, [], ◌∷◌, ◌++◌, length, get_or, set, replicate, sym, ap, subst, ◌∙◌, arith, refl}
use Rattle.std.proofs.lemmas.Grind.{common_steps}
use Rattle.eevdf_steps.specs.{declared.plan.Position.Position, Plan.Plan, Callers.BeginAll}
use Rattle.eevdf_steps.specs.Counters.{Counters, count_of, counted, step_next}
use Rattle.eevdf_steps.specs.Positions.{ArePositions, IsPosition, counter_at, counters_at}

get_counter : (plan : Plan) (p : ℕ) (ats : List Position) (k : ℕ) (d : Position) → k < length ats
    → get_or (counters_at plan p ats) k 0 ≡ counter_at plan (p + k) (get_or ats k d)
get_counter plan p [] k d h = absurd (omega arith)
get_counter plan p (a ∷ ats) zero d h = ap (λ (q : ℕ). counter_at plan q a) (let e : p ≡ p + 0 = omega arith in e)
get_counter plan p (a ∷ ats) (suc k) d h = grind (arith, get_counter plan (p + 1) ats k d)

set_counter : (plan : Plan) (p : ℕ) (ats : List Position) (k : ℕ) (a : Position)
    → counters_at plan p (set ats k a) ≡ set (counters_at plan p ats) k (counter_at plan (p + k) a)
set_counter plan p [] k a = refl
set_counter plan p (b ∷ ats) zero a = ap (λ (q : ℕ). counter_at plan q a ∷ counters_at plan (p + 1) ats) (let e : p ≡ p + 0 = omega arith in e)
set_counter plan p (b ∷ ats) (suc k) a = grind (arith, set_counter plan (p + 1) ats k a)

from_zero : (k : ℕ) → 0 + k ≡ k
from_zero k = omega arith

-- the first caller is of number 0
pub counter_of : (plan : Plan) (ats : List Position) (k : ℕ) (a : Position) → k < length ats → a ≡ get_or ats k a
    → count_of (counters_at plan 0 ats) k ≡ counter_at plan k a
counter_of plan ats k a h e =
    get_counter plan 0 ats k a h ∙ ap (λ (q : ℕ). counter_at plan q (get_or ats k a)) (from_zero k) ∙ ap (λ (b : Position). counter_at plan k b) (sym e)

pub position_of : (plan : Plan) (ats : List Position) (k : ℕ) (a : Position) → k < length ats → a ≡ get_or ats k a → ArePositions plan ats → IsPosition plan k a
position_of plan ats k a h e all = subst (λ (b : Position). IsPosition plan k b) (sym e) (all k a h)

-- the step that is kept is the next one
pub step_kept : (plan : Plan) (ats : List Position) (k cpu : ℕ) (a : Position) → k ≡ cpu → k < length ats → a ≡ get_or ats k a → ArePositions plan ats
    → a.next ≡ step_next plan (counters_at plan 0 ats) cpu
step_kept plan ats k cpu a same h e all = grind (arith, position_of, counter_of)

pub positions_with : (plan : Plan) (ats : List Position) (k : ℕ) (a : Position) → k < length ats → IsPosition plan k a → ArePositions plan ats → ArePositions plan (set ats k a)
positions_with plan ats k a h new all c d below = grind (arith, common_steps)

pub counters_with : (plan : Plan) (ats : List Position) (k : ℕ) (a b : Position) → k < length ats → a ≡ get_or ats k a → counter_at plan k b ≡ counter_at plan k a + 1
    → counters_at plan 0 (set ats k b) ≡ counted (counters_at plan 0 ats) k
counters_with plan ats k a b h e more = grind (arith, set_counter, from_zero, counter_of)

-- at the start
pushed : (P : ℕ → Position → Type 0) (ats : List Position) (a : Position) → ((c : ℕ) (d : Position) → c < length ats → P c (get_or ats c d)) → P (length ats) a
    → (c : ℕ) (d : Position) → c < length (ats ++ a ∷ []) → P c (get_or (ats ++ a ∷ []) c d)
pushed P ats a before new c d below = grind (arith, common_steps)

first_counters : (plan : Plan) (p : ℕ) (ats : List Position) → ((k : ℕ) (d : Position) → k < length ats → counter_at plan (p + k) (get_or ats k d) ≡ 0)
    → counters_at plan p ats ≡ replicate (length ats) 0
first_counters plan p [] none = refl
first_counters plan p (a ∷ ats) none =
    ap (λ (c : ℕ). c ∷ counters_at plan (p + 1) ats) (ap (λ (q : ℕ). counter_at plan q a) (let e : p ≡ p + 0 = omega arith in e) ∙ none 0 a (omega arith))
    ∙ ap (λ (cs : Counters). 0 ∷ cs) (first_counters plan (p + 1) ats (λ k d h.
    ap (λ (q : ℕ). counter_at plan q (get_or ats k d)) (let e : p + 1 + k ≡ p + suc k = omega arith in e) ∙ none (suc k) d (omega arith)))

pub counters_first : (plan : Plan) (n : ℕ) (ats : List Position) → BeginAll plan n ats → counters_at plan 0 ats ≡ replicate n 0
counters_first plan n ats b = grind (arith, first_counters, from_zero)

pub length-counters_at : (plan : Plan) (p : ℕ) (ats : List Position) → length (counters_at plan p ats) ≡ length ats
length-counters_at plan p [] = refl
length-counters_at plan p (a ∷ ats) = ap suc (length-counters_at plan (p + 1) ats)
