-- Where a lawful order leads, and where a complete one ends.
use Rattle.std.proofs.Common.{◌≡◌, ℕ, ◌+◌, ◌<◌, ◌≤◌, Bool, true, false, cond, List, [], ◌∷◌, length, sym, ap, ◌∙◌, arith, refl}
use Rattle.std.proofs.lemmas.{Bool.false≢true, Bool.le-ltb, Grind.common_steps}
use Rattle.std.specs.Prelude.{nat_lt, is_none, is_some, Option, Some, None}
use Rattle.std.specs.Option.{option_map}
use Rattle.eevdf_steps.specs.{declared.plan.Step.Step, declared.step_fault.StepFault.TheVariants.NoCaller}
use Rattle.eevdf_steps.specs.{declared.play_fault.PlayFault.TheVariants.Short, Plan.Plan, Plan.callers}
use Rattle.eevdf_steps.specs.Counters.{Counters, counted, is_under_way, refusal, refused_next, step_next, unfinished}
use Rattle.eevdf_steps.specs.Orders.{IsWhole, WholeIsPlayed, counters_after, is_lawful, order_fault}
use Rattle.eevdf_steps.specs.Requests.{Progress, progress_after, progress_step}
use Rattle.eevdf_steps.proofs.{Plans.no_step, Ready.least_there}

-- where a step isn't refused there is one
not_refused : (plan : Plan) (counters : Counters) (p : ℕ) (r : Option Step) (b : Bool)
    → cond b (refused_next plan counters (option_map (λ (s : Step). s.micro) r)) (Some NoCaller) ≡ None → (s : Step) × (r ≡ Some s)
not_refused plan counters p (Some s) b e = (s, refl)
not_refused plan counters p None true e = cc
not_refused plan counters p None false e = cc

pub has_step : (plan : Plan) (counters : Counters) (p : ℕ) → refusal plan counters p ≡ None → (s : Step) × (step_next plan counters p ≡ Some s)
has_step plan counters p e = not_refused plan counters p (step_next plan counters p) (nat_lt p (callers plan)) e

pub none_of : {A : Type 0} (r : Option A) → is_none r ≡ true → r ≡ None
none_of None e = refl
none_of (Some x) e = absurd (false≢true e)

pub counters_lawful : (plan : Plan) (g : Progress) (order : List ℕ) → is_lawful plan g.counters order ≡ true
    → (progress_after plan g order).counters ≡ counters_after g.counters order
counters_lawful plan g [] lawful = refl
counters_lawful plan g (p ∷ order) lawful = grind (arith, counters_lawful plan (progress_step plan g p) order)

not_short : (r : Option ℕ) → option_map (λ (p : ℕ). Short p) r ≡ None → is_none r ≡ true
not_short None e = refl
not_short (Some p) e = cc

pub faultless_whole : (plan : Plan) (counters : Counters) (at : ℕ) (order : List ℕ) → order_fault plan counters at order ≡ None → IsWhole plan counters order
faultless_whole plan counters at [] e = record { lawful = refl; complete = not_short (unfinished plan counters) e }
faultless_whole plan counters at (p ∷ order) e = grind (arith, faultless_whole plan (counted counters p) (at + 1) order)

-- and the other way round
no_short : (r : Option ℕ) → is_none r ≡ true → option_map (λ (p : ℕ). Short p) r ≡ None
no_short None e = refl
no_short (Some p) e = absurd (false≢true e)

pub whole_faultless : (plan : Plan) (counters : Counters) (at : ℕ) (order : List ℕ) → IsWhole plan counters order → order_fault plan counters at order ≡ None
whole_faultless plan counters at [] w = no_short (unfinished plan counters) w.complete
whole_faultless plan counters at (p ∷ order) w = grind (arith, whole_faultless plan (counted counters p) (at + 1) order)

-- after a whole order everybody is done
pub whole_ends : (plan : Plan) (g : Progress) (order : List ℕ) → IsWhole plan g.counters order → unfinished plan (progress_after plan g order).counters ≡ None
whole_ends plan g order w =
    none_of _ (ap (λ (cs : Counters). is_none (unfinished plan cs)) (counters_lawful plan g order w.lawful) ∙ w.complete)

not_under_way : (plan : Plan) (counters : Counters) (p : ℕ) (r : Option Step) → step_next plan counters p ≡ r → unfinished plan counters ≡ None
    → p < callers plan → r ≡ None
not_under_way plan counters p None e none below = refl
not_under_way plan counters p (Some s) e none below =
    absurd (false≢true (sym (least_there (is_under_way plan counters) 0 (callers plan) p (ap (λ (r : Option Step). is_some r) e) (omega arith) (omega arith))
    ∙ ap (λ (r : Option ℕ). is_none r) none))

pub done_by_all : (plan : Plan) (counters : Counters) (p : ℕ) → unfinished plan counters ≡ None → step_next plan counters p ≡ None
done_by_all plan counters p e = grind (arith, not_under_way, no_step)

-- each step counts one caller on
pub length-progress_step : (plan : Plan) (g : Progress) (p : ℕ) → length (progress_step plan g p).counters ≡ length g.counters
length-progress_step plan g p = grind (arith, common_steps)

pub fits_in : (n most : ℕ) → n ≤ most → nat_lt most n ≡ false
fits_in n most h = le-ltb most n h

pub whole_is_played : WholeIsPlayed
whole_is_played plan order short whole = grind (arith, fits_in, whole_faultless)
