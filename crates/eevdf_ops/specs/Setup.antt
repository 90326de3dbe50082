-- What a machine is set up from.
use Rattle.std.specs.Prelude.{ℕ, nat_lt, ◌==◌, Bool, true, ◌&&◌, not, List, map, length, slice_index_or}
use Rattle.eevdf_ops.specs.{declared.task_spec.TaskSpec.TaskSpec, declared.deeds.Op.Op, declared.deeds.Deed.Deed}
use Rattle.eevdf_ops.specs.{declared.named.Named.Named, declared.origin.Origin.Origin, Origins.decider, Origins.origin_of}
use Rattle.eevdf_ops.specs.Signatures.{arguments_of, named_by}
use Rattle.eevdf_ops.specs.declared.named.Named.TheVariants.{Nothing, Task, TaskAtHome, Source}
use Rattle.eevdf_ops.specs.declared.origin.Origin.TheVariants.{Operation, Request}

-- the tasks by their numbers, and the program of each CPU
pub record Setup : Type 0 where
  pub tasks : List TaskSpec
  pub programs : List (List Op)

-- how many CPUs there are
abbrev pub cpus_of : Setup → ℕ
cpus_of s = length s.programs

-- the home of each task
abbrev pub homes_of : Setup → List ℕ
homes_of s = map (λ (t : TaskSpec). t.home) s.tasks

abbrev pub home_of : List ℕ → ℕ → ℕ
home_of homes task = slice_index_or homes task 0

abbrev pub is_task : List ℕ → ℕ → Bool
is_task homes task = nat_lt task (length homes)

-- whether a task has its home at a CPU
abbrev pub is_at_home : List ℕ → ℕ → ℕ → Bool
is_at_home homes task cpu = is_task homes task && (home_of homes task == cpu)

-- whether a CPU may pull from another
abbrev pub is_source : ℕ → ℕ → ℕ → Bool
is_source cpus cpu source = nat_lt source cpus && not (source == cpu)

-- what an operation names
abbrev pub named : Op → Named
named o = named_by (arguments_of o)

-- whether a machine has what an operation of a CPU names
abbrev pub has_named : ℕ → List ℕ → ℕ → Named → Bool
has_named cpus homes cpu Nothing = true
has_named cpus homes cpu (Task task) = is_task homes task
has_named cpus homes cpu (TaskAtHome task) = is_at_home homes task cpu
has_named cpus homes cpu (Source source) = is_source cpus cpu source

-- whether it has what a deed of a CPU comes from: what the operation names, or the sender of the request, whose task has its home there
abbrev pub has_origin : ℕ → List ℕ → ℕ → Origin → Bool
has_origin cpus homes cpu (Operation o) = has_named cpus homes cpu (named o)
has_origin cpus homes cpu (Request task sender) = nat_lt sender cpus && is_at_home homes task cpu

-- whether a deed is one of a CPU of the machine, and names only what the machine has
abbrev pub is_allowed : ℕ → List ℕ → Deed → Bool
is_allowed cpus homes deed = nat_lt (decider deed) cpus && has_origin cpus homes (decider deed) (origin_of deed)

abbrev pub allows : Setup → Deed → Bool
allows s deed = is_allowed (cpus_of s) (homes_of s) deed
