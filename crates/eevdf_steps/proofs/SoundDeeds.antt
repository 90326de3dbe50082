-- The deeds of a sound plan name CPUs and tasks of the machine.
use Rattle.std.proofs.Common.{◌≡◌, ℕ, ◌+◌, ◌<◌, Bool, true, List, [], ◌∷◌, length, map, sym, ap, subst, ◌∙◌, refl, arith}
use Rattle.std.specs.Prelude.{nat_lt, ◌&&◌, Option, Some}
use Rattle.std.specs.List.{list_all}
use Rattle.eevdf_ops.specs.{declared.deeds.Op.Op, declared.deeds.Deed.Deed, Places.AreCpus, declared.origin.Origin.Origin, Programs.deed_of}
use Rattle.eevdf_ops.specs.Setup.{has_named, has_origin, is_allowed, named}
use Rattle.eevdf_ops.specs.declared.deeds.Op.TheVariants as op
use Rattle.eevdf_steps.specs.{declared.micro.Micro.Micro, declared.plan.Step.Step, SoundSteps.is_sound_micro, UnderWay.UnderWay}
use Rattle.eevdf_steps.specs.{UnderWay.under_way, Serial.begun_by}
use Rattle.eevdf_steps.specs.MicroSteps.{micros_of, steps_by, steps_of}
use Rattle.eevdf_steps.specs.Counters.{Counters, count_of, step_next}
use Rattle.eevdf_steps.specs.Plan.{IsSound, Plan, callers, fits_cpu, is_sound_op, program}
use Rattle.eevdf_steps.proofs.{Positions.step_in, Walks.Walk, Walking.program_fits_cpu, Walking.walking, OtherCallers.AreWalking}
use Rattle.eevdf_steps.proofs.Begun.{FitsAll, Standing, standing}
use Rattle.eevdf_steps.proofs.SoundSteps.{all_joined, home_below, is_caller, some_all, step_sound}
use Rattle.eevdf_ops.proofs.Origins.{parts-of}
use Rattle.std.proofs.lemmas.Bool.{and_parts, and_from, lt-ltb}

abbrev step_fits_cpu : List ℕ → ℕ → Step → Bool
step_fits_cpu homes p s = fits_cpu homes p s.op

of_op : (homes : List ℕ) (p : ℕ) (o : Op) (ms : List Micro) → fits_cpu homes p o ≡ true → list_all (step_fits_cpu homes p) (map (step_in o) ms) ≡ true
of_op homes p o [] h = refl
of_op homes p o (m ∷ ms) h = and_from (fits_cpu homes p o) _ h (of_op homes p o ms h)

of_ops : (plan : Plan) (p : ℕ) (os : List Op) → list_all (fits_cpu plan.homes p) os ≡ true → list_all (step_fits_cpu plan.homes p) (steps_of plan p os) ≡ true
of_ops plan p [] h = refl
of_ops plan p (o ∷ os) h =
    let parts = and_parts (fits_cpu plan.homes p o) (list_all (fits_cpu plan.homes p) os) h in
    all_joined (step_fits_cpu plan.homes p) (map (step_in o) (micros_of plan p o)) (steps_of plan p os) (of_op plan.homes p o (micros_of plan p o) parts.0) (of_ops plan p os parts.1)

-- the operation of a step pulls from no queue but another's, and begins at home
pub next_fits_cpu : (plan : Plan) (counters : Counters) (p : ℕ) (s : Step) → IsSound plan → step_next plan counters p ≡ Some s → fits_cpu plan.homes p s.op ≡ true
next_fits_cpu plan counters p s sound e =
    some_all (step_fits_cpu plan.homes p) (steps_by plan p) (count_of counters p) s (of_ops plan p (program plan p)
    (subst (λ (k : ℕ). list_all (fits_cpu plan.homes k) (program plan p) ≡ true) (let z : 0 + p ≡ p = omega arith in z) (program_fits_cpu plan.homes 0 p plan.programs sound.fits))) e

pub next_sound_op : (plan : Plan) (counters : Counters) (p : ℕ) (s : Step) → IsSound plan → step_next plan counters p ≡ Some s → is_sound_op plan s.op ≡ true
next_sound_op plan counters p s sound e =
    (and_parts (is_sound_op plan s.op) (is_sound_micro plan s.micro) (step_sound plan counters p s sound (is_caller plan counters p s e) e)).0

has_names : (plan : Plan) (p : ℕ) (o : Op) → is_sound_op plan o ≡ true → fits_cpu plan.homes p o ≡ true → has_named (callers plan) plan.homes p (named o) ≡ true
has_names plan p (op.Begin t nice slice) s k = k
has_names plan p (op.Pull q) s k = and_from _ _ s k
has_names plan p o s k = s

pub allowed_op : (plan : Plan) (p : ℕ) (o : Op) (d : Deed) → p < callers plan → is_sound_op plan o ≡ true → fits_cpu plan.homes p o ≡ true → deed_of p o ≡ Some d
    → is_allowed (callers plan) plan.homes d ≡ true
allowed_op plan p o d h s k e =
    subst (λ (x : ℕ × Origin). (nat_lt x.0 (callers plan) && has_origin (callers plan) plan.homes x.0 x.1) ≡ true) (sym (parts-of p o d e))
    (and_from _ _ (lt-ltb p (callers plan) h) (has_names plan p o s k))

pub deed_fits : (plan : Plan) (counters : Counters) (p : ℕ) (s : Step) (d : Deed) → IsSound plan → step_next plan counters p ≡ Some s → deed_of p s.op ≡ Some d → FitsAll plan d
deed_fits plan counters p s d sound e is = λ m long. record {
  allowed = ap (λ (n : ℕ). is_allowed n plan.homes d) long
      ∙ allowed_op plan p s.op d (is_caller plan counters p s e) (next_sound_op plan counters p s sound e) (next_fits_cpu plan counters p s sound e) is;
  cpus = subst (λ (n : ℕ). AreCpus n plan.homes) (sym long) (λ t h. home_below plan t sound h);
}

begun_walks : (plan : Plan) (counters : Counters) (q : ℕ) (u : UnderWay) (o : Option Step) → IsSound plan → length counters ≡ callers plan
    → under_way q o ≡ Some u → step_next plan counters q ≡ o → Walk plan counters q
begun_walks plan counters q u o sound each b e = grind (arith, walking, is_caller)

pub are_walking : (plan : Plan) (counters : Counters) → IsSound plan → length counters ≡ callers plan → AreWalking plan counters
are_walking plan counters sound each =
    let walks : (q : ℕ) (u : UnderWay) → begun_by plan counters q ≡ Some u → Walk plan counters q
    = λ q u b. begun_walks plan counters q u (step_next plan counters q) sound each b refl in
    record {
      walks = walks;
      fits = λ q u b.
          let st : Standing plan counters q u = standing plan counters q u (walks q u b) b in
          deed_fits plan counters q st.next u.deed sound st.is_next st.deed_is;
    }
