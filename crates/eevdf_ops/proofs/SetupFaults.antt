-- What a setup without a fault gives for its parts.
use Rattle.std.proofs.Common.{◌≡◌, ℕ, zero, suc, ◌+◌, ◌<◌, ◌≤◌, Bool, true, false, List, [], ◌∷◌, length, get_or, subst, arith, refl}
use Rattle.std.proofs.{lemmas.Bool.leb-true}
use Rattle.std.specs.Prelude.{Option, Some, None, nat_le}
use Rattle.std.specs.Option.{option_or}
use Rattle.eevdf_ops.specs.{declared.deeds.Op.Op, declared.setup_fault.SetupFault.SetupFault}
use Rattle.eevdf_ops.specs.Followed.{program_of}
use Rattle.eevdf_ops.specs.Faults.{is_count, operation_fault, operations_fault, program_fault, programs_fault, setup_fault, tasks_fault, unless}
use Rattle.eevdf_ops.specs.Numbers.{most_cpus, most_operations, most_tasks}
use Rattle.eevdf_ops.specs.Setup.{Setup, cpus_of, homes_of}

pub or_none_left : {X : Type 0} (f g : Option X) → option_or f g ≡ None → f ≡ None
or_none_left None g e = refl
or_none_left (Some f) g e = cc

pub or_none_right : {X : Type 0} (f g : Option X) → option_or f g ≡ None → g ≡ None
or_none_right None g e = e
or_none_right (Some f) g e = cc

pub passes : (b : Bool) (f : SetupFault) → unless b f ≡ None → b ≡ true
passes true f e = refl
passes false f e = cc

-- the four parts of a setup without a fault
pub record Parts (s : Setup) : Type 0 where
  pub cpus : is_count (cpus_of s) most_cpus ≡ true
  pub tasks : is_count (length s.tasks) most_tasks ≡ true
  pub homes : tasks_fault (cpus_of s) 0 s.tasks ≡ None
  pub programs : programs_fault (homes_of s) (cpus_of s) 0 s.programs ≡ None

pub parts_of : (s : Setup) → setup_fault s.tasks s.programs ≡ None → Parts s
parts_of s e =
    let counted = or_none_right _ _ e in
    let named = or_none_right _ _ counted in
    record {
      cpus = passes _ _ (or_none_left _ _ e);
      tasks = passes _ _ (or_none_left _ _ counted);
      homes = or_none_left _ _ named;
      programs = or_none_right _ _ named;
    }

program_at : (homes : List ℕ) (cpus from : ℕ) (ps : List (List Op)) (k : ℕ) → programs_fault homes cpus from ps ≡ None → k < length ps
    → program_fault homes cpus (from + k) (get_or ps k []) ≡ None
program_at homes cpus from [] k e h = absurd (omega arith)
program_at homes cpus from (p ∷ ps) zero e h =
    subst (λ (cpu : ℕ). program_fault homes cpus cpu p ≡ None) (let same : from ≡ from + 0 = omega arith in same) (or_none_left _ _ e)
program_at homes cpus from (p ∷ ps) (suc k) e h =
    subst (λ (cpu : ℕ). program_fault homes cpus cpu (get_or ps k []) ≡ None) (let same : from + 1 + k ≡ from + suc k = omega arith in same)
    (program_at homes cpus (from + 1) ps k (or_none_right (program_fault homes cpus from p) _ e) (omega arith))

operation_at : (homes : List ℕ) (cpus cpu from : ℕ) (ops : List Op) (n : ℕ) (d : Op) → operations_fault homes cpus cpu from ops ≡ None → n < length ops
    → operation_fault homes cpus cpu (from + n) (get_or ops n d) ≡ None
operation_at homes cpus cpu from [] n d e h = absurd (omega arith)
operation_at homes cpus cpu from (o ∷ ops) zero d e h =
    subst (λ (place : ℕ). operation_fault homes cpus cpu place o ≡ None) (let same : from ≡ from + 0 = omega arith in same) (or_none_left _ _ e)
operation_at homes cpus cpu from (o ∷ ops) (suc n) d e h =
    subst (λ (place : ℕ). operation_fault homes cpus cpu place (get_or ops n d) ≡ None) (let same : from + 1 + n ≡ from + suc n = omega arith in same)
    (operation_at homes cpus cpu (from + 1) ops n d (or_none_right (operation_fault homes cpus cpu from o) _ e) (omega arith))

program_sound : (s : Setup) (cpu : ℕ) → setup_fault s.tasks s.programs ≡ None → cpu < cpus_of s
    → program_fault (homes_of s) (cpus_of s) cpu (program_of s cpu) ≡ None
program_sound s cpu e h =
    subst (λ (k : ℕ). program_fault (homes_of s) (cpus_of s) k (program_of s cpu) ≡ None) (let same : 0 + cpu ≡ cpu = omega arith in same)
    (program_at (homes_of s) (cpus_of s) 0 s.programs cpu (parts_of s e).programs h)

-- a program has only so many operations
pub program_short : (s : Setup) (cpu : ℕ) → setup_fault s.tasks s.programs ≡ None → cpu < cpus_of s → length (program_of s cpu) ≤ most_operations
program_short s cpu e h =
    leb-true (length (program_of s cpu)) most_operations (passes (nat_le (length (program_of s cpu)) most_operations) _ (or_none_left _ _ (program_sound s cpu e h)))

-- none of the operations has a fault
pub operation_sound : (s : Setup) (cpu n : ℕ) (d : Op) → setup_fault s.tasks s.programs ≡ None → cpu < cpus_of s → n < length (program_of s cpu)
    → operation_fault (homes_of s) (cpus_of s) cpu n (get_or (program_of s cpu) n d) ≡ None
operation_sound s cpu n d e h within =
    subst (λ (place : ℕ). operation_fault (homes_of s) (cpus_of s) cpu place (get_or (program_of s cpu) n d) ≡ None) (let same : 0 + n ≡ n = omega arith in same)
    (operation_at (homes_of s) (cpus_of s) cpu 0 (program_of s cpu) n d (or_none_right (unless (nat_le (length (program_of s cpu)) most_operations) _) _ (program_sound s cpu e h)) within)
