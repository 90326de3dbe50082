-- What the callers are to do.
use Rattle.std.specs.Prelude.{◌≡◌, ℕ, ◌*◌, ◌+◌, ◌≤◌, ◌==◌, nat_lt, nat_le, Bool, ◌&&◌, not, true, List, [], ◌∷◌, length, slice_index_or}
use Rattle.std.specs.List.{list_all}
use Rattle.eevdf_ops.specs.{declared.deeds.Op.Op, Numbers.most_cpus, Numbers.most_operations, Setup.Setup, Setup.homes_of, Setup.is_at_home, Setup.is_task, Setup.named, declared.named.Named.Named, declared.named.Named.TheVariants.Task, declared.named.Named.TheVariants.Source}
use Rattle.eevdf_ops.specs.{Machine.Machine, Machine.start}
use Rattle.eevdf_ops.specs.declared.deeds.Op.TheVariants as op

-- the home of each task, the program of each caller, who stands on the CPU of the same number, and the machine on
-- which they start
pub record Plan : Type 0 where
  pub homes : List ℕ
  pub programs : List (List Op)
  pub start : Machine

abbrev pub plan_of : Setup → Plan
plan_of s = record { homes = homes_of s; programs = s.programs; start = start s }

-- how many callers there are, one for each CPU
abbrev pub callers : Plan → ℕ
callers plan = length plan.programs

abbrev pub program : Plan → ℕ → List Op
program plan caller = slice_index_or plan.programs caller []

abbrev pub home : Plan → ℕ → ℕ
home plan task = slice_index_or plan.homes task 0

-- the place of what goes from a sender to a home, in a list of one for each pair
abbrev pub pair : Plan → ℕ → ℕ → ℕ
pair plan sender home = sender * callers plan + home

-- an operation names only tasks and callers that there are
abbrev pub is_sound_name : Plan → Named → Bool
is_sound_name plan (Task task) = is_task plan.homes task
is_sound_name plan (Source source) = nat_lt source (callers plan)
is_sound_name plan _ = true

abbrev pub is_sound_op : Plan → Op → Bool
is_sound_op plan o = is_sound_name plan (named o)

abbrev pub is_sound_program : Plan → List Op → Bool
is_sound_program plan ops = nat_le (length ops) most_operations && list_all (is_sound_op plan) ops

-- an operation of a CPU pulls from no queue but another's, and begins a task that has its home there
abbrev pub fits_cpu : List ℕ → ℕ → Op → Bool
fits_cpu homes cpu (op.Pull source) = not (source == cpu)
fits_cpu homes cpu (op.Begin task nice slice) = is_at_home homes task cpu
fits_cpu homes cpu _ = true

-- the same of the programs of the CPUs from one on
abbrev pub all_fit_cpus : List ℕ → ℕ → List (List Op) → Bool
all_fit_cpus homes cpu [] = true
all_fit_cpus homes cpu (ops ∷ programs) = list_all (fits_cpu homes cpu) ops && all_fit_cpus homes (cpu + 1) programs

-- what a setup without faults makes sure of
pub record IsSound (plan : Plan) : Type 0 where
  pub few : callers plan ≤ most_cpus
  pub homes : list_all (λ (h : ℕ). nat_lt h (callers plan)) plan.homes ≡ true
  pub programs : list_all (is_sound_program plan) plan.programs ≡ true
  pub fits : all_fit_cpus plan.homes 0 plan.programs ≡ true
  pub start : length plan.start ≡ callers plan
