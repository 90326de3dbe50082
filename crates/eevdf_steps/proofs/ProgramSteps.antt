-- The deeds that the steps of a program commit, whatever requests they find, are those of its operations.
use Rattle.std.proofs.Common.{append_assoc, ◌≡◌, ◌≤◌, ℕ, zero, suc, ◌+◌, Bool, cond, List, [], ◌∷◌, ◌++◌, map, min, max, sym, ap, subst, ◌∙◌, arith, refl}
use Rattle.std.specs.{Prelude.Option, Prelude.Some, Option.option_to_list}
use Rattle.eevdf_ops.specs.{declared.deeds.Op.Op, declared.deeds.Deed.Deed}
use Rattle.eevdf_ops.specs.declared.deeds.Op.TheVariants as op
use Rattle.eevdf_ops.specs.declared.deeds.Deed.TheVariants as deed
use Rattle.eevdf_ops.specs.Programs.{AreWakes, FitsOperation, FitsOperations, InTwo, deed_of}
use Rattle.eevdf_steps.specs.{declared.micro.Micro.Micro, declared.micro.Micro.TheVariants.Release, declared.plan.Step.Step}
use Rattle.eevdf_steps.specs.{Commits.committed, Commits.wake_of, Plan.Plan}
use Rattle.eevdf_steps.specs.MicroSteps.{acting, draining, micros_of, moving, steps_of, under_lock}
use Rattle.eevdf_steps.proofs.Positions.{step_in}

-- the deed that a step commits, and then others
pub record FitsStep (p : ℕ) (deeds : List Deed) (s : Step) (Rest : List Deed → Type 0) : Type 0 where
  pub found : Option ℕ
  pub rest : List Deed
  pub joined : deeds ≡ option_to_list (committed found p s.op s.micro) ++ rest
  pub fits : Rest rest

-- the deeds that steps of a caller commit
abbrev pub FitsSteps : ℕ → List Deed → List Step → Type 0
FitsSteps p deeds [] = deeds ≡ []
FitsSteps p deeds (s ∷ ss) = FitsStep p deeds s (λ rest. FitsSteps p rest ss)

in_two : (p : ℕ) (xs ys : List Step) (deeds : List Deed) → FitsSteps p deeds (xs ++ ys)
    → InTwo deeds (λ front. FitsSteps p front xs) (λ back. FitsSteps p back ys)
in_two p [] ys deeds h = record { front = []; back = deeds; joined = refl; fits_front = refl; fits_back = h }
in_two p (x ∷ xs) ys deeds h =
    let parts : InTwo h.rest (λ front. FitsSteps p front xs) (λ back. FitsSteps p back ys) = in_two p xs ys h.rest h.fits in
    let mine : List Deed = option_to_list (committed h.found p x.op x.micro) in
    record {
      front = mine ++ parts.front;
      back = parts.back;
      joined = h.joined ∙ ap (λ (l : List Deed). mine ++ l) parts.joined ∙ sym (append_assoc mine parts.front parts.back);
      fits_front = record { found = h.found; rest = parts.front; joined = refl; fits = parts.fits_front };
      fits_back = parts.fits_back;
    }

abbrev steps_in : Op → List Micro → List Step
steps_in o ms = map (step_in o) ms

-- an operation on the caller's own queue, and one that moves a task
acts : (p : ℕ) (o : Op) (d : Deed) (deeds : List Deed) → deed_of p o ≡ Some d → FitsSteps p deeds (steps_in o (under_lock p acting)) → deeds ≡ d ∷ []
acts p o d deeds e h = grind arith

moves : (p a : ℕ) (o : Op) (d : Deed) (deeds : List Deed) → deed_of p o ≡ Some d → FitsSteps p deeds (steps_in o (under_lock a moving)) → deeds ≡ d ∷ []
moves p a o d deeds e h = grind arith

moves_between : (p a b : ℕ) (o : Op) (d : Deed) (deeds : List Deed) → deed_of p o ≡ Some d → FitsSteps p deeds (steps_in o (under_lock a (under_lock b moving)))
    → deeds ≡ d ∷ []
moves_between p a b o d deeds e h = grind arith

sleeps : (p a b : ℕ) (o : Op) (d : Deed) (deeds : List Deed) (here : Bool) → deed_of p o ≡ Some d
    → FitsSteps p deeds (steps_in o (cond here (under_lock p moving) (under_lock a (under_lock b moving)))) → deeds ≡ d ∷ []
sleeps p a b o d deeds here e h = grind arith

-- wakes of senders from a number on are such from a lesser one on
wakes_from_less : (p from more : ℕ) (deeds : List Deed) → from ≤ more → AreWakes p more deeds → AreWakes p from deeds
wakes_from_less p from more [] h wakes = tt
wakes_from_less p from more (deed.Wake cpu task sender ∷ deeds) h wakes = grind arith
wakes_from_less p from more (other ∷ deeds) h wakes = wakes

-- a request of a sender is settled, and then those of the senders after it are
settles : (p s : ℕ) (found : Option ℕ) (rest : List Deed) → AreWakes p (s + 1) rest → AreWakes p s (option_to_list (wake_of p s found) ++ rest)
settles p s found rest wakes = grind (arith, wakes_from_less)

drains : (p c n s : ℕ) (deeds : List Deed) → FitsSteps p deeds (steps_in op.Drain (draining n s ++ Release c ∷ [])) → AreWakes p s deeds
drains p c zero s deeds h = subst (λ (ds : List Deed). AreWakes p s ds) (sym (h.joined ∙ h.fits)) tt
drains p c (suc n) s deeds h = grind (arith, drains p c n (s + 1) h.fits.rest, settles)

operation_fits : (plan : Plan) (p : ℕ) (o : Op) (deeds : List Deed) → FitsSteps p deeds (steps_in o (micros_of plan p o)) → FitsOperation p deeds o
operation_fits plan p (op.Sleep t) deeds h = grind arith
operation_fits plan p (op.Doze t) deeds h = grind arith
operation_fits plan p (op.End t) deeds h = grind arith
operation_fits plan p (op.Pull s) deeds h = moves_between p (min p s) (max p s) (op.Pull s) (deed.Pull p s) deeds refl h
operation_fits plan p (op.Post t) deeds h = h.joined ∙ h.fits
operation_fits plan p op.Drain deeds h = grind (arith, drains)
operation_fits plan p o deeds h = acts p o _ deeds refl h

pub operations_fit : (plan : Plan) (p : ℕ) (ops : List Op) (deeds : List Deed) → FitsSteps p deeds (steps_of plan p ops) → FitsOperations p deeds ops
operations_fit plan p [] deeds h = h
operations_fit plan p (o ∷ ops) deeds h =
    let parts : InTwo deeds (λ front. FitsSteps p front (steps_in o (micros_of plan p o))) (λ back. FitsSteps p back (steps_of plan p ops))
    = in_two p (steps_in o (micros_of plan p o)) (steps_of plan p ops) deeds h in
    record {
      front = parts.front;
      back = parts.back;
      joined = parts.joined;
      fits_front = operation_fits plan p o parts.front parts.fits_front;
      fits_back = operations_fit plan p ops parts.back parts.fits_back;
    }
