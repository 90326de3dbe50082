-- What a sound plan says of an operation.
use Rattle.std.proofs.Common.{◌≡◌, ℕ, zero, suc, ◌<◌, ◌≤◌, true, List, [], ◌∷◌, length, get_or, sym, subst, arith, refl}
use Rattle.std.proofs.lemmas.{Option.slice_get_within, Bool.and_parts, Bool.leb-true, Grind.common_steps}
use Rattle.std.specs.List.{list_all}
use Rattle.std.specs.Prelude.{slice_get, nat_le, Some, None}
use Rattle.eevdf_ops.specs.declared.deeds.Op.{Op}
use Rattle.eevdf_steps.specs.Plan.{IsSound, Plan, callers, is_sound_op, is_sound_program, program}
use Rattle.eevdf_steps.specs.Counters.{Counters, count_of, step_next}
use Rattle.eevdf_steps.specs.MicroSteps.{steps_of}

program_sound : (plan : Plan) (programs : List (List Op)) (p : ℕ) → list_all (is_sound_program plan) programs ≡ true → is_sound_program plan (get_or programs p []) ≡ true
program_sound plan [] p all = refl
program_sound plan (x ∷ programs) zero all = (and_parts (is_sound_program plan x) (list_all (is_sound_program plan) programs) all).0
program_sound plan (x ∷ programs) (suc p) all = program_sound plan programs p (and_parts (is_sound_program plan x) (list_all (is_sound_program plan) programs) all).1

some_sound : (plan : Plan) (ops : List Op) (k : ℕ) (o : Op) → list_all (is_sound_op plan) ops ≡ true → slice_get ops k ≡ Some o → is_sound_op plan o ≡ true
some_sound plan [] k o all here = cc
some_sound plan (x ∷ ops) zero o all here = grind arith
some_sound plan (x ∷ ops) (suc k) o all here = some_sound plan ops k o (and_parts (is_sound_op plan x) (list_all (is_sound_op plan) ops) all).1 here

parts : (plan : Plan) (p : ℕ) → IsSound plan → (nat_le (length (program plan p)) 10000 ≡ true) × (list_all (is_sound_op plan) (program plan p) ≡ true)
parts plan p s = and_parts (nat_le (length (program plan p)) 10000) (list_all (is_sound_op plan) (program plan p)) (program_sound plan plan.programs p s.programs)

pub op_sound : (plan : Plan) (p k : ℕ) (o : Op) → IsSound plan → slice_get (program plan p) k ≡ Some o → is_sound_op plan o ≡ true
op_sound plan p k o s here = some_sound plan (program plan p) k o (parts plan p s).1 here

pub op_within : (plan : Plan) (p k : ℕ) (o : Op) → IsSound plan → slice_get (program plan p) k ≡ Some o → k < 10000
op_within plan p k o s here = grind (arith, common_steps, slice_get_within, leb-true, parts)

pub program_ops_sound : (plan : Plan) (p : ℕ) → IsSound plan → list_all (is_sound_op plan) (program plan p) ≡ true
program_ops_sound plan p s = (parts plan p s).1

pub program_short : (plan : Plan) (p : ℕ) → IsSound plan → length (program plan p) ≤ 10000
program_short plan p s = leb-true (length (program plan p)) 10000 (parts plan p s).0

-- where there is no such caller there is no step
pub programs_past : (ps : List (List Op)) (k : ℕ) → length ps ≤ k → get_or ps k [] ≡ []
programs_past [] k h = refl
programs_past (p ∷ ps) zero h = absurd (omega arith)
programs_past (p ∷ ps) (suc k) h = programs_past ps k (omega arith)

pub no_step : (plan : Plan) (counters : Counters) (k : ℕ) → callers plan ≤ k → step_next plan counters k ≡ None
no_step plan counters k h = subst (λ (os : List Op). slice_get (steps_of plan k os) (count_of counters k) ≡ None) (sym (programs_past plan.programs k h)) refl
