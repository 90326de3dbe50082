-- Every step of a sound plan is sound.
use Rattle.std.proofs.Common.{◌≡◌, ℕ, zero, suc, ◌+◌, ◌<◌, ◌≤◌, Bool, true, cond, List, [], ◌∷◌, ◌++◌, length, map, arith, refl}
use Rattle.std.proofs.lemmas.Bool.{and_parts, ltb-true, and_from}
use Rattle.std.proofs.lemmas.Grind.{common_steps}
use Rattle.std.specs.List.{list_all}
use Rattle.std.specs.Prelude.{slice_get, nat_lt, IfSome, Option, Some}
use Rattle.eevdf_ops.specs.declared.deeds.Op.{Op}
use Rattle.eevdf_ops.specs.declared.deeds.Op.TheVariants as op
use Rattle.eevdf_steps.specs.{declared.micro.Micro.Micro, declared.plan.Step.Step, SoundSteps.is_sound_micro}
use Rattle.eevdf_steps.specs.{SoundSteps.is_sound_step, declared.micro.Micro.TheVariants.Act}
use Rattle.eevdf_steps.specs.declared.micro.Micro.TheVariants.{Commit}
use Rattle.eevdf_steps.specs.Plan.{IsSound, Plan, callers, home, is_sound_op, program}
use Rattle.eevdf_steps.specs.MicroSteps.{draining, micros_of, moving, steps_by, steps_of, under_lock, under_locks}
use Rattle.eevdf_steps.specs.{Counters.Counters, Counters.count_of, Counters.step_next, MicroState.home_for}
use Rattle.eevdf_steps.proofs.{Lists.all_at, Plans.program_ops_sound, Positions.step_in}

pub all_joined : {A : Type 0} (test : A → Bool) (xs ys : List A) → list_all test xs ≡ true → list_all test ys ≡ true → list_all test (xs ++ ys) ≡ true
all_joined test [] ys h k = k
all_joined test (x ∷ xs) ys h k =
    let parts = and_parts (test x) (list_all test xs) h in
    and_from (test x) (list_all test (xs ++ ys)) parts.0 (all_joined test xs ys parts.1 k)

locked : (plan : Plan) (cpu : ℕ) (ms : List Micro) → cpu < callers plan → list_all (is_sound_micro plan) ms ≡ true → list_all (is_sound_micro plan) (under_lock cpu ms) ≡ true
locked plan cpu ms h all = grind (arith, common_steps)

both_locked : (plan : Plan) (a b : ℕ) → a < callers plan → b < callers plan → list_all (is_sound_micro plan) (under_locks a b moving) ≡ true
both_locked plan a b h k = grind arith

drains : (plan : Plan) (n s : ℕ) → s + n ≤ callers plan → list_all (is_sound_micro plan) (draining n s) ≡ true
drains plan zero s h = refl
drains plan (suc n) s h = grind (arith, drains plan n (s + 1))

sleeps : (plan : Plan) (p h : ℕ) (b : Bool) → p < callers plan → h < callers plan → list_all (is_sound_micro plan) (cond b (under_lock p moving) (under_locks p h moving)) ≡ true
sleeps plan p h b k l = grind arith

pub home_below : (plan : Plan) (task : ℕ) → IsSound plan → task < length plan.homes → home plan task < callers plan
home_below plan task s h = ltb-true (home plan task) (callers plan) (all_at (λ (k : ℕ). nat_lt k (callers plan)) plan.homes task 0 s.homes h)

pub home_for_below : (plan : Plan) (p : ℕ) (o : Op) → IsSound plan → p < callers plan → is_sound_op plan o ≡ true → home_for plan p o < callers plan
home_for_below plan p o s h k = grind (arith, home_below, ltb-true)

micros_sound : (plan : Plan) (p : ℕ) (o : Op) → IsSound plan → p < callers plan → is_sound_op plan o ≡ true → list_all (is_sound_micro plan) (micros_of plan p o) ≡ true
micros_sound plan p (op.Sleep task) s h k = grind (arith, common_steps)
micros_sound plan p (op.Doze task) s h k = grind (arith, common_steps)
micros_sound plan p (op.End task) s h k = grind (arith, common_steps)
micros_sound plan p (op.Pull source) s h k = both_locked plan p source h (ltb-true source (callers plan) k)
micros_sound plan p op.Drain s h k = locked plan p (draining (callers plan) 0) h (drains plan (callers plan) 0 (omega arith))
micros_sound plan p (op.Post task) s h k = and_from (nat_lt task (length plan.homes)) true k refl
micros_sound plan p _ s h k = locked plan p (Act ∷ Commit ∷ []) h refl

in_op : (plan : Plan) (o : Op) (ms : List Micro) → is_sound_op plan o ≡ true → list_all (is_sound_micro plan) ms ≡ true → list_all (is_sound_step plan) (map (step_in o) ms) ≡ true
in_op plan o [] h all = refl
in_op plan o (m ∷ ms) h all = grind (arith, in_op plan o ms)

steps_sound : (plan : Plan) (p : ℕ) (os : List Op) → IsSound plan → p < callers plan → list_all (is_sound_op plan) os ≡ true → list_all (is_sound_step plan) (steps_of plan p os) ≡ true
steps_sound plan p [] s h all = refl
steps_sound plan p (o ∷ os) s h all =
    let parts = and_parts (is_sound_op plan o) (list_all (is_sound_op plan) os) all in
    all_joined (is_sound_step plan) (map (step_in o) (micros_of plan p o)) (steps_of plan p os)
    (in_op plan o (micros_of plan p o) parts.0 (micros_sound plan p o s h parts.0)) (steps_sound plan p os s h parts.1)

pub some_all : {A : Type 0} (test : A → Bool) (xs : List A) (k : ℕ) (x : A) → list_all test xs ≡ true → slice_get xs k ≡ Some x → test x ≡ true
some_all test [] k x all e = cc
some_all test (y ∷ xs) zero x all e = grind arith
some_all test (y ∷ xs) (suc k) x all e = some_all test xs k x (and_parts (test y) (list_all test xs) all).1 e

pub all_steps_sound : (plan : Plan) (p : ℕ) → IsSound plan → p < callers plan → list_all (is_sound_step plan) (steps_by plan p) ≡ true
all_steps_sound plan p sound h = steps_sound plan p (program plan p) sound h (program_ops_sound plan p sound)

pub step_sound : (plan : Plan) (counters : Counters) (p : ℕ) (s : Step) → IsSound plan → p < callers plan → step_next plan counters p ≡ Some s → is_sound_step plan s ≡ true
step_sound plan counters p s sound h e = some_all (is_sound_step plan) (steps_by plan p) (count_of counters p) s (all_steps_sound plan p sound h) e

pub micro_sound : (plan : Plan) (s : Step) → is_sound_step plan s ≡ true → is_sound_micro plan s.micro ≡ true
micro_sound plan s well = (and_parts (is_sound_op plan s.op) (is_sound_micro plan s.micro) well).1

pub some_step_sound : (plan : Plan) (counters : Counters) (p : ℕ) (r : Option Step) → IsSound plan → p < callers plan → r ≡ step_next plan counters p
    → IfSome r (λ (s : Step). is_sound_step plan s ≡ true)
some_step_sound plan counters p r sound h e = grind (arith, step_sound)

-- who has a step is a caller
pub is_caller : (plan : Plan) (counters : Counters) (p : ℕ) (s : Step) → step_next plan counters p ≡ Some s → p < callers plan
is_caller plan counters p s e = grind (arith, common_steps)
