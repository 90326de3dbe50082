-- The tasks that the setup of a plan has.
use Rattle.std.specs.Prelude.{ℕ, zero, suc, ◌%◌, nat_lt, List, [], ◌∷◌, ◌++◌, Option, Some, None, Bool, true, pos}
use Rattle.eevdf_ops.specs.{declared.task_spec.TaskSpec.TaskSpec}
use Rattle.eevdf_closed_loop.specs.{declared.plan.Arrivals.Arrivals, declared.plan.Group.Group}

-- the home of a group's task of this number within the group: the CPU of the group, or each CPU in turn
abbrev pub home_of : ℕ → Option ℕ → ℕ → ℕ
home_of cpus (Some home) number = home
home_of cpus None number = number % cpus

-- true where there are arrivals, and else what is given
abbrev pub or_later : Option Arrivals → Bool → Bool
or_later (Some arrivals) later = true
or_later None later = later

-- whether a group's tasks are asleep at first: those that arrive, and those that begin later than at 0
abbrev pub is_asleep_first : Group → Bool
is_asleep_first group = or_later group.arrivals (nat_lt 0 group.begins)

-- that task
abbrev pub task_of : ℕ → Group → ℕ → TaskSpec
task_of cpus group number = record {
  home = home_of cpus group.home number;
  nice = group.nice;
  slice = group.slice;
  start = pos 0;
  asleep = is_asleep_first group;
}

-- the first tasks of a group, so many
abbrev pub first_tasks : ℕ → Group → ℕ → List TaskSpec
first_tasks cpus group zero = []
first_tasks cpus group (suc number) = first_tasks cpus group number ++ (task_of cpus group number ∷ [])

-- all tasks, group after group
abbrev pub tasks_of : ℕ → List Group → List TaskSpec
tasks_of cpus [] = []
tasks_of cpus (group ∷ groups) = first_tasks cpus group group.count ++ tasks_of cpus groups
