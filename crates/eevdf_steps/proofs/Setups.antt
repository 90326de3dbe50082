-- The plan of a setup is sound.
use Rattle.std.proofs.Common.{◌≡◌, ℕ, ◌+◌, true, List, [], ◌∷◌, map, replicate, ◌∙◌, refl, arith}
use Rattle.std.proofs.lemmas.{Bool.and_parts, Bool.leb-true}
use Rattle.std.proofs.Math.ListN.{length-replicate}
use Rattle.std.specs.List.{list_all}
use Rattle.std.specs.Prelude.{nat_lt, nat_le, None}
use Rattle.eevdf_ops.specs.{declared.task_spec.TaskSpec.TaskSpec, declared.deeds.Op.Op, Numbers.most_cpus, Setup.Setup}
use Rattle.eevdf_ops.specs.Setup.{cpus_of, homes_of}
use Rattle.eevdf_queue.specs.State.{empty_state}
use Rattle.eevdf_ops.proofs.Machines.{length-begin_at_homes}
use Rattle.eevdf_ops.proofs.SetupFaults.{or_none_left, or_none_right, parts_of, passes}
use Rattle.eevdf_ops.specs.Faults.{operations_fault, program_fault, programs_fault, setup_fault, tasks_fault}
use Rattle.eevdf_steps.specs.Plan.{IsSound, Plan, all_fit_cpus, callers, fits_cpu, is_sound_op, is_sound_program, plan_of}

at_cpus : (cpus place : ℕ) (ts : List TaskSpec) → tasks_fault cpus place ts ≡ None → list_all (λ (h : ℕ). nat_lt h cpus) (map (λ (t : TaskSpec). t.home) ts) ≡ true
at_cpus cpus place [] h = refl
at_cpus cpus place (t ∷ ts) h = grind (arith, at_cpus cpus (place + 1) ts)

ops_are_sound : (plan : Plan) (cpu place : ℕ) (os : List Op) → operations_fault plan.homes (callers plan) cpu place os ≡ None → list_all (is_sound_op plan) os ≡ true
ops_are_sound plan cpu place [] h = refl
ops_are_sound plan cpu place (o ∷ os) h = grind (arith, ops_are_sound plan cpu (place + 1) os)

program_is_sound : (plan : Plan) (cpu : ℕ) (os : List Op) → program_fault plan.homes (callers plan) cpu os ≡ None → is_sound_program plan os ≡ true
program_is_sound plan cpu os h = grind (arith, passes, or_none_left, ops_are_sound, or_none_right)

programs_are_sound : (plan : Plan) (cpu : ℕ) (ps : List (List Op)) → programs_fault plan.homes (callers plan) cpu ps ≡ None → list_all (is_sound_program plan) ps ≡ true
programs_are_sound plan cpu [] h = refl
programs_are_sound plan cpu (p ∷ ps) h = grind (arith, programs_are_sound plan (cpu + 1) ps, program_is_sound, or_none_left, or_none_right)

ops_fit_cpu : (homes : List ℕ) (cpus cpu place : ℕ) (os : List Op) → operations_fault homes cpus cpu place os ≡ None → list_all (fits_cpu homes cpu) os ≡ true
ops_fit_cpu homes cpus cpu place [] h = refl
ops_fit_cpu homes cpus cpu place (o ∷ os) h = grind (arith, ops_fit_cpu homes cpus cpu (place + 1) os)

programs_fit_cpus : (homes : List ℕ) (cpus cpu : ℕ) (ps : List (List Op)) → programs_fault homes cpus cpu ps ≡ None → all_fit_cpus homes cpu ps ≡ true
programs_fit_cpus homes cpus cpu [] h = refl
programs_fit_cpus homes cpus cpu (p ∷ ps) h = grind (arith, programs_fit_cpus homes cpus (cpu + 1) ps, or_none_left, ops_fit_cpu, or_none_right)

pub plan_sound : (s : Setup) → setup_fault s.tasks s.programs ≡ None → IsSound (plan_of s)
plan_sound s h = record {
  few = leb-true (cpus_of s) most_cpus (and_parts (nat_le 1 (cpus_of s)) (nat_le (cpus_of s) most_cpus) (parts_of s h).cpus).1;
  homes = at_cpus (cpus_of s) 0 s.tasks (parts_of s h).homes;
  programs = programs_are_sound (plan_of s) 0 s.programs (parts_of s h).programs;
  fits = programs_fit_cpus (homes_of s) (cpus_of s) 0 s.programs (parts_of s h).programs;
  start = length-begin_at_homes 0 s.tasks (replicate (cpus_of s) empty_state) ∙ length-replicate (cpus_of s) empty_state;
}
