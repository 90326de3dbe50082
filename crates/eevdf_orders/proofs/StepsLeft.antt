-- How many steps the callers have still to do: each place of a lawful order is one of them.
use Rattle.std.proofs.Common.{◌≡◌, ◌≢◌, ℕ, zero, suc, ◌+◌, ◌-◌, ◌<◌, ◌≤◌, Bool, true, false, cond, List, [], ◌∷◌, length, inl, inr, sym, ap, ◌∙◌, arith, refl}
use Rattle.std.proofs.Math.ListN.{length-set, length-replicate}
use Rattle.std.proofs.lemmas.Bool.{false≢true, and_parts, cases_eq}
use Rattle.std.proofs.lemmas.{List.get_or-set_same, List.get_or-set_other, Bool.Decides.nat_tests}
use Rattle.std.specs.Prelude.{nat_lt, is_some, slice_get, Option, Some, None}
use Rattle.eevdf_steps.specs.{declared.play_fault.PlayFault.PlayFault, declared.play_fault.PlayFault.TheVariants.TooLong, Plan.Plan}
use Rattle.eevdf_steps.specs.{Plan.callers, MicroSteps.steps_by, Room.sum_from, Players.Player}
use Rattle.eevdf_steps.specs.Counters.{Counters, count_of, counted, is_under_way, may_step, step_next, unfinished}
use Rattle.eevdf_steps.specs.Orders.{IsWhole, counters_after, counters_at_start, is_lawful, order_fault, play_fault}
use Rattle.eevdf_steps.proofs.{LawfulOrders.faultless_whole, LawfulOrders.none_of, Ready.Found, Ready.least_found, Rooms.sum_less}
use Rattle.eevdf_orders.proofs.GoingAround.{none_in}
use Rattle.eevdf_orders.proofs.PlacedOrders.{IsPlaced, HasStep, has_step_of}

-- the steps that a caller has still to do
abbrev steps_left : Plan → Counters → ℕ → ℕ
steps_left plan counters p = length (steps_by plan p) - count_of counters p

-- and all callers together
abbrev all_left : Plan → Counters → ℕ
all_left plan counters = sum_from (steps_left plan counters) 0 (callers plan)

-- ---- one step

within : {A : Type 0} (xs : List A) (k : ℕ) → is_some (slice_get xs k) ≡ true → k < length xs
within [] k e = absurd (false≢true e)
within (x ∷ xs) zero e = omega arith
within (x ∷ xs) (suc k) e = let rest : k < length xs = within xs k e in omega (arith, rest)

own_left : (plan : Plan) (counters : Counters) (p : ℕ) → p < length counters → is_some (step_next plan counters p) ≡ true
    → steps_left plan counters p ≡ steps_left plan (counted counters p) p + 1
own_left plan counters p h some =
    let one : count_of (counted counters p) p ≡ count_of counters p + 1 = get_or-set_same counters p (count_of counters p + 1) 0 h in
    let more : count_of counters p < length (steps_by plan p) = within (steps_by plan p) (count_of counters p) some in
    omega (arith, one, more)

other_left : (plan : Plan) (counters : Counters) (p q : ℕ) → q ≢ p → steps_left plan counters q ≡ steps_left plan (counted counters p) q
other_left plan counters p q apart =
    sym (ap (λ (k : ℕ). length (steps_by plan q) - k) (get_or-set_other counters p q (count_of counters p + 1) 0 apart))

one_less : (plan : Plan) (counters : Counters) (p : ℕ) → length counters ≡ callers plan → may_step plan counters p ≡ true
    → all_left plan counters ≡ all_left plan (counted counters p) + 1
one_less plan counters p each may =
    let st : HasStep plan counters p = has_step_of plan counters p may in
    sum_less (steps_left plan counters) (steps_left plan (counted counters p)) p 0 (callers plan) 1 (omega arith) (omega (arith, st.below))
    (own_left plan counters p (omega (arith, st.below, each)) st.has_step) (other_left plan counters p)

lawful_left : (plan : Plan) (counters : Counters) (order : List ℕ) → length counters ≡ callers plan → is_lawful plan counters order ≡ true
    → all_left plan counters ≡ all_left plan (counters_after counters order) + length order
lawful_left plan counters [] each lawful = omega arith
lawful_left plan counters (p ∷ order) each lawful =
    let parts : (may_step plan counters p ≡ true) × (is_lawful plan (counted counters p) order ≡ true)
    = and_parts (may_step plan counters p) (is_lawful plan (counted counters p) order) lawful in
    let same : length (counted counters p) ≡ callers plan = length-set counters p (count_of counters p + 1) ∙ each in
    let rest : all_left plan (counted counters p) ≡ all_left plan (counters_after (counted counters p) order) + length order
    = lawful_left plan (counted counters p) order same parts.1 in
    let here : all_left plan counters ≡ all_left plan (counted counters p) + 1 = one_less plan counters p each parts.0 in
    omega (arith, rest, here)

-- ---- the end

idle_left : (plan : Plan) (counters : Counters) (p : ℕ) → is_under_way plan counters p ≡ false → steps_left plan counters p ≡ 0
idle_left plan counters p idle = past_end (steps_by plan p) (count_of counters p) idle
  where
    past_end : {A : Type 0} (xs : List A) (k : ℕ) → is_some (slice_get xs k) ≡ false → length xs - k ≡ 0
    past_end [] k e = omega arith
    past_end (x ∷ xs) zero e = absurd (false≢true (sym e))
    past_end (x ∷ xs) (suc k) e = let rest : length xs - k ≡ 0 = past_end xs k e in omega (arith, rest)

sum_none : (f : ℕ → ℕ) (from n : ℕ) → ((k : ℕ) → from ≤ k → k < from + n → f k ≡ 0) → sum_from f from n ≡ 0
sum_none f from zero none = refl
sum_none f from (suc n) none =
    let here : f from ≡ 0 = none from (omega arith) (omega arith) in
    let rest : sum_from f (from + 1) n ≡ 0 = sum_none f (from + 1) n (λ k low high. none k (omega (arith, low)) (omega (arith, high))) in
    omega (arith, here, rest)

sum_some : (f : ℕ → ℕ) (from n k : ℕ) → from ≤ k → k < from + n → f k ≤ sum_from f from n
sum_some f from zero k low high = absurd (omega arith)
sum_some f from (suc n) k low high =
    elim (cases_eq from k) [
      | inl same ↦ let e : f from ≡ f k = ap f same in omega (arith, e)
      | inr apart ↦ let rest : f k ≤ sum_from f (from + 1) n = sum_some f (from + 1) n k (omega arith) (omega arith) in omega (arith, rest)
    ]

none_left : (plan : Plan) (counters : Counters) → unfinished plan counters ≡ None → all_left plan counters ≡ 0
none_left plan counters done =
    sum_none (steps_left plan counters) 0 (callers plan)
    (λ k low high. idle_left plan counters k (none_in (is_under_way plan counters) 0 (callers plan) k done low high))

under_way_left : (plan : Plan) (counters : Counters) (p : ℕ) → is_under_way plan counters p ≡ true → 0 < steps_left plan counters p
under_way_left plan counters p busy = omega (arith, within (steps_by plan p) (count_of counters p) busy)

some_left : (plan : Plan) (counters : Counters) → is_some (unfinished plan counters) ≡ true → 0 < all_left plan counters
some_left plan counters busy = go (unfinished plan counters) refl busy
  where
    go : (o : Option ℕ) → unfinished plan counters ≡ o → is_some o ≡ true → 0 < all_left plan counters
    go None e h = absurd (false≢true h)
    go (Some p) e h =
        let found : Found (is_under_way plan counters) 0 (callers plan) p = least_found (is_under_way plan counters) 0 (callers plan) p e in
        let own : 0 < steps_left plan counters p = under_way_left plan counters p found.passes in
        let part : steps_left plan counters p ≤ all_left plan counters = sum_some (steps_left plan counters) 0 (callers plan) p (omega arith) found.within in
        omega (arith, own, part)

-- ---- orders without a fault

each_at_start : (plan : Plan) → length (counters_at_start plan) ≡ callers plan
each_at_start plan = length-replicate (callers plan) 0

-- an order without a fault has as many places as there are steps to do
faultless_length : (plan : Plan) (order : List ℕ) → order_fault plan (counters_at_start plan) 0 order ≡ None → all_left plan (counters_at_start plan) ≡ length order
faultless_length plan order h =
    let whole : IsWhole plan (counters_at_start plan) order = faultless_whole plan (counters_at_start plan) 0 order h in
    let all : all_left plan (counters_at_start plan) ≡ all_left plan (counters_after (counters_at_start plan) order) + length order
    = lawful_left plan (counters_at_start plan) order (each_at_start plan) whole.lawful in
    let none : all_left plan (counters_after (counters_at_start plan) order) ≡ 0 = none_left plan (counters_after (counters_at_start plan) order)
    (none_of (unfinished plan (counters_after (counters_at_start plan) order)) whole.complete) in
    omega (arith, all, none)

more_left : (plan : Plan) (a : Player) (order : List ℕ) → IsPlaced plan a order → is_some (unfinished a.plan a.state.progress.counters) ≡ true
    → length order < all_left plan (counters_at_start plan)
more_left plan a order placed busy =
    let there : is_some (unfinished plan (counters_after (counters_at_start plan) order)) ≡ true
    = sym (ap (λ (pl : Plan). is_some (unfinished pl a.state.progress.counters)) placed.plan_is ∙ ap (λ (cs : Counters). is_some (unfinished plan cs)) placed.counters) ∙ busy in
    let some : 0 < all_left plan (counters_after (counters_at_start plan) order) = some_left plan (counters_after (counters_at_start plan) order) there in
    let all : all_left plan (counters_at_start plan) ≡ all_left plan (counters_after (counters_at_start plan) order) + length order
    = lawful_left plan (counters_at_start plan) order (each_at_start plan) placed.lawful in
    omega (arith, some, all)

short : (m n : ℕ) → nat_lt m n ≡ false → n ≤ m
short m n h = grind (arith, nat_tests)

faulty : (plan : Plan) (order : List ℕ) (b : Bool) (f : Option PlayFault) → nat_lt 1000000 (length order) ≡ b → order_fault plan (counters_at_start plan) 0 order ≡ f
    → 1000000 < all_left plan (counters_at_start plan) → is_some (cond b (Some TooLong) f) ≡ true
faulty plan order true f e h many = refl
faulty plan order false (Some f) e h many = refl
faulty plan order false None e h many =
    let few : length order ≤ 1000000 = short 1000000 (length order) e in
    let all : all_left plan (counters_at_start plan) ≡ length order = faultless_length plan order h in
    absurd (omega (arith, few, all, many))

-- where a lawful order of so many places leaves somebody unfinished, each order has a fault
pub all_faulty : (plan : Plan) (a : Player) (order : List ℕ) → IsPlaced plan a order → length order ≡ 1000000 → is_some (unfinished a.plan a.state.progress.counters) ≡ true
    → (other : List ℕ) → is_some (play_fault plan other) ≡ true
all_faulty plan a order placed long busy other =
    let many : length order < all_left plan (counters_at_start plan) = more_left plan a order placed busy in
    faulty plan other (nat_lt 1000000 (length other)) (order_fault plan (counters_at_start plan) 0 other) refl refl (omega (arith, many, long))
