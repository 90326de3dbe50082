-- Positions in a program, and the counters that they come to.
use Rattle.std.proofs.Common.{◌≡◌, ℕ, zero, suc, ◌+◌, ◌*◌, ◌<◌, ◌≤◌, Bool, true, cond, List, [], ◌∷◌, ◌++◌, length, map, take, get_or, sym, ap, subst, ◌∙◌, arith, refl}
use Rattle.std.proofs.Math.ListN.{length-append}
use Rattle.std.proofs.lemmas.{List.length-map, Grind.common_steps, Option.slice_get-map, Option.slice_get_within}
use Rattle.std.specs.Option.{option_map}
use Rattle.std.specs.Prelude.{slice_get, Option, Some, None}
use Rattle.eevdf_ops.specs.{declared.deeds.Op.Op, Numbers.most_cpus}
use Rattle.eevdf_steps.specs.{declared.micro.Micro.Micro, declared.plan.Step.Step, declared.plan.Position.Position}
use Rattle.eevdf_steps.specs.{Callers.BeginAll, Positions.IsPosition, Positions.counter_at, Positions.is_within}
use Rattle.eevdf_steps.specs.Plan.{Plan, callers, program}
use Rattle.eevdf_steps.specs.MicroSteps.{draining, micros_of, moving, steps_of, under_lock, under_locks}
use Rattle.eevdf_steps.proofs.Lists.{get_left, get_right}

abbrev pub step_in : Op → Micro → Step
step_in o m = record { op = o; micro = m }

abbrev pub micros_in : Plan → ℕ → Op → List Step
micros_in plan p o = map (step_in o) (micros_of plan p o)

-- a step of an operation in the list of its program
pub located : (plan : Plan) (p : ℕ) (ops : List Op) (k j : ℕ) (o : Op) → slice_get ops k ≡ Some o → j < length (micros_of plan p o)
    → slice_get (steps_of plan p ops) (length (steps_of plan p (take k ops)) + j) ≡ option_map (step_in o) (slice_get (micros_of plan p o) j)
located plan p [] k j o here h = cc
located plan p (x ∷ ops) zero j o here h =
    let same : x ≡ o = cc in
    subst (λ (y : Op). slice_get (steps_of plan p (y ∷ ops)) (0 + j) ≡ option_map (step_in o) (slice_get (micros_of plan p o) j)) (sym same)
    (ap (λ (i : ℕ). slice_get (steps_of plan p (o ∷ ops)) i) (let e : 0 + j ≡ j = omega arith in e)
    ∙ get_left (micros_in plan p o) (steps_of plan p ops) j (omega (arith, length-map (micros_of plan p o) (step_in o)))
    ∙ slice_get-map (step_in o) (micros_of plan p o) j)
located plan p (x ∷ ops) (suc k) j o here h =
    ap (λ (i : ℕ). slice_get (steps_of plan p (x ∷ ops)) i) (let e : length (micros_in plan p x ++ steps_of plan p (take k ops)) + j ≡ length (micros_in plan p x) + (length (steps_of plan p (take k ops)) + j)
    = omega (arith, length-append (micros_in plan p x) (steps_of plan p (take k ops))) in e)
    ∙ get_right (micros_in plan p x) (steps_of plan p ops) (length (steps_of plan p (take k ops)) + j)
    ∙ located plan p ops k j o here h

-- past the last operation there is no step
pub located_past : (plan : Plan) (p : ℕ) (ops : List Op) (k j : ℕ) → slice_get ops k ≡ None → j ≡ 0
    → slice_get (steps_of plan p ops) (length (steps_of plan p (take k ops)) + j) ≡ None
located_past plan p [] k j past z = refl
located_past plan p (x ∷ ops) zero j past z = cc
located_past plan p (x ∷ ops) (suc k) j past z = grind (arith, located_past plan p ops k j, length-append, get_right)

-- where the next operation begins
pub begins_after : (plan : Plan) (p : ℕ) (ops : List Op) (k : ℕ) (o : Op) → slice_get ops k ≡ Some o
    → length (steps_of plan p (take (suc k) ops)) ≡ length (steps_of plan p (take k ops)) + length (micros_of plan p o)
begins_after plan p [] k o here = cc
begins_after plan p (x ∷ ops) zero o here = grind (arith, common_steps)
begins_after plan p (x ∷ ops) (suc k) o here = grind (arith, common_steps, begins_after plan p ops k o)

length-draining : (n s : ℕ) → length (draining n s) ≡ 2 * n
length-draining zero s = refl
length-draining (suc n) s = omega (arith, length-draining n (s + 1))

-- an operation has at least one step, and not many
few_sleeping : (p h : ℕ) (b : Bool) → (0 < length (cond b (under_lock p moving) (under_locks p h moving))) × (length (cond b (under_lock p moving) (under_locks p h moving)) ≤ 2 * most_cpus + 2)
few_sleeping p h b = grind arith

few_draining : (n p : ℕ) → n ≤ most_cpus → (0 < length (under_lock p (draining n 0))) × (length (under_lock p (draining n 0)) ≤ 2 * most_cpus + 2)
few_draining n p few = grind (arith, length-append, length-draining)

pub few_micros : (plan : Plan) (p : ℕ) (o : Op) → callers plan ≤ most_cpus → (0 < length (micros_of plan p o)) × (length (micros_of plan p o) ≤ 2 * most_cpus + 2)
few_micros plan p o few = grind (arith, few_sleeping, few_draining)

pub counter_of_next : (plan : Plan) (p k j : ℕ) (o : Op) → slice_get (program plan p) k ≡ Some o → j + 1 ≡ length (micros_of plan p o)
    → length (steps_of plan p (take (k + 1) (program plan p))) ≡ length (steps_of plan p (take k (program plan p))) + j + 1
counter_of_next plan p k j o here last = grind (arith, begins_after)

within_some : (plan : Plan) (p j : ℕ) (q : Option Op) (o : Op) → q ≡ Some o → is_within plan p j q ≡ true → j < length (micros_of plan p o)
within_some plan p j None o e h = cc
within_some plan p j (Some x) o e h = grind arith

within_none : (plan : Plan) (p j : ℕ) (q : Option Op) → q ≡ None → is_within plan p j q ≡ true → j ≡ 0
within_none plan p j q e h = grind arith

-- a position before a step of an operation, and one past the last operation
pub position_in : (plan : Plan) (p k j : ℕ) (o : Op) (next : Option Step) → slice_get (program plan p) k ≡ Some o → j < length (micros_of plan p o)
    → next ≡ option_map (step_in o) (slice_get (micros_of plan p o) j) → IsPosition plan p (record { operation = k; steps = j; next = next })
position_in plan p k j o next here h e = grind (arith, located)

-- a position with a step stands in the step's operation
pub record StandsIn (plan : Plan) (p : ℕ) (at : Position) (s : Step) : Type 0 where
  pub here : slice_get (program plan p) at.operation ≡ Some s.op
  pub within : at.steps < length (micros_of plan p s.op)

op_of : (o : Op) (r : Option Micro) (s : Step) → option_map (step_in o) r ≡ Some s → o ≡ s.op
op_of o r s e = grind arith

stands_by : (plan : Plan) (p : ℕ) (at : Position) (s : Step) (q : Option Op) → slice_get (program plan p) at.operation ≡ q → IsPosition plan p at → at.next ≡ Some s
    → StandsIn plan p at s
stands_by plan p at s None past is e = grind (arith, located_past, within_none)
stands_by plan p at s (Some o) here is e =
    let h : at.steps < length (micros_of plan p o) = within_some plan p at.steps (slice_get (program plan p) at.operation) o here is.within in
    let same : o ≡ s.op = op_of o (slice_get (micros_of plan p o) at.steps) s (sym (located plan p (program plan p) at.operation at.steps o here h) ∙ sym is.next ∙ e) in
    record { here = here ∙ ap (λ (x : Op). Some x) same; within = subst (λ (x : Op). at.steps < length (micros_of plan p x)) same h }

pub stands : (plan : Plan) (p : ℕ) (at : Position) (s : Step) → IsPosition plan p at → at.next ≡ Some s → StandsIn plan p at s
stands plan p at s is e = stands_by plan p at s (slice_get (program plan p) at.operation) refl is e

-- a position that has gone on with its operation's next step
pub goes_on : (plan : Plan) (p : ℕ) (at on : Position) (s : Step) (m : Micro) → StandsIn plan p at s → at.next ≡ Some s
    → on.operation ≡ at.operation → on.steps ≡ at.steps + 1 → on.next ≡ option_map (λ (t : Step). step_in t.op m) at.next
    → slice_get (micros_of plan p s.op) (at.steps + 1) ≡ Some m → IsPosition plan p on
goes_on plan p at on s m stands e same one next is =
    let h : at.steps + 1 < length (micros_of plan p s.op) = slice_get_within (micros_of plan p s.op) (at.steps + 1) m is in
    let there : on.next ≡ option_map (step_in s.op) (slice_get (micros_of plan p s.op) (at.steps + 1))
    = next ∙ ap (λ (q : Option Step). option_map (λ (t : Step). step_in t.op m) q) e
    ∙ sym (ap (λ (q : Option Micro). option_map (step_in s.op) q) is) in
    let on_is : record { operation = at.operation; steps = at.steps + 1; next = on.next } ≡ on = grind arith in
    subst (IsPosition plan p) on_is (position_in plan p at.operation (at.steps + 1) s.op on.next stands.here h there)

-- what holds of each place of a list and of one more at its end
each_pushed : {A : Type 0} (P : ℕ → A → Type 0) (xs : List A) (x : A) → ((i : ℕ) (d : A) → i < length xs → P i (get_or xs i d)) → P (length xs) x
    → (i : ℕ) (d : A) → i < length (xs ++ x ∷ []) → P i (get_or (xs ++ x ∷ []) i d)
each_pushed P [] x each last zero d h = last
each_pushed P [] x each last (suc i) d h = absurd (omega arith)
each_pushed P (y ∷ xs) x each last zero d h = each 0 d (omega arith)
each_pushed P (y ∷ xs) x each last (suc i) d h = each_pushed (λ k. P (suc k)) xs x (λ k e below. each (suc k) e (omega arith)) last i d (omega arith)

-- one more caller stands at the beginning of its program
pub begin_next : (plan : Plan) (k p : ℕ) (ps : List Position) (d : Position) → BeginAll plan k ps → p ≡ k → IsPosition plan p d → counter_at plan p d ≡ 0
    → BeginAll plan (k + 1) (ps ++ d ∷ [])
begin_next plan k p ps d all at is none =
    let same : p ≡ length ps = at ∙ sym all.each in
    record {
      each = omega (arith, length-append ps (d ∷ []), all.each);
      within = each_pushed (IsPosition plan) ps d all.within (subst (λ q. IsPosition plan q d) same is);
      nothing_done = each_pushed (λ q x. counter_at plan q x ≡ 0) ps d all.nothing_done (subst (λ q. counter_at plan q d ≡ 0) same none);
    }
