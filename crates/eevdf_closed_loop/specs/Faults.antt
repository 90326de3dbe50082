-- What is wrong with a plan.
use Rattle.std.specs.Prelude.{ℕ, ◌+◌, nat_lt, nat_le, Bool, true, false, ◌&&◌, List, [], ◌∷◌, length, if◌then◌else◌, Option, Some, None}
use Rattle.std.specs.Option.{option_or}
use Rattle.eevdf_ops.specs.Numbers.{most_cpus, most_tasks}
use Rattle.eevdf_closed_loop.specs.{declared.phase.Phase.Phase, declared.plan.Group.Group, declared.plan.Plan.Plan}
use Rattle.eevdf_closed_loop.specs.declared.phase.Phase.TheVariants.{Run, Sleep, Timer, Suspend, Resume, Yield, Nice, Again, End}
use Rattle.eevdf_closed_loop.specs.{declared.opening.OpenFault.OpenFault}
use Rattle.eevdf_closed_loop.specs.declared.opening.OpenFault.TheVariants.{BadCpus, BadTasks, BadHome, NoPhases, BadPhase}

-- a fault, unless the test passes
abbrev pub unless : Bool → OpenFault → Option OpenFault
unless passes fault = if passes then None else Some fault

abbrev pub is_number_of_cpus : ℕ → Bool
is_number_of_cpus cpus = nat_le 1 cpus && nat_le cpus most_cpus

-- loops stand in one another so deep at most
abbrev pub most_depths : ℕ
most_depths = 8

-- a phase that stands at a place can be gone through where there are so many groups
abbrev pub can_be_gone_through : ℕ → ℕ → Phase → Bool
can_be_gone_through groups at (Run span) = true
can_be_gone_through groups at (Sleep span) = true
can_be_gone_through groups at (Timer period) = true
can_be_gone_through groups at Suspend = true
can_be_gone_through groups at (Resume group) = nat_lt group groups
can_be_gone_through groups at Yield = true
can_be_gone_through groups at (Nice nice) = true
can_be_gone_through groups at (Again first depth rounds) = nat_le first at && nat_lt depth most_depths
can_be_gone_through groups at End = true

-- so can all phases from a place on
abbrev pub can_all_be_gone_through : ℕ → ℕ → List Phase → Bool
can_all_be_gone_through groups at [] = true
can_all_be_gone_through groups at (phase ∷ phases) = can_be_gone_through groups at phase && can_all_be_gone_through groups (at + 1) phases

-- a home that is given is a CPU
abbrev pub is_home : ℕ → Option ℕ → Bool
is_home cpus (Some home) = nat_lt home cpus
is_home cpus None = true

-- a group at a place has phases that can be gone through, its tasks have room behind so many others, and a home
abbrev pub group_fault : ℕ → ℕ → ℕ → ℕ → Group → Option OpenFault
group_fault cpus groups place before group =
    option_or (unless (nat_lt 0 (length group.phases.items)) (NoPhases place))
    (option_or (unless (can_all_be_gone_through groups 0 group.phases.items) (BadPhase place))
    (option_or (unless (nat_le (before + group.count) most_tasks) BadTasks) (unless (is_home cpus group.home) (BadHome place))))

abbrev pub groups_fault : ℕ → ℕ → ℕ → ℕ → List Group → Option OpenFault
groups_fault cpus groups place before [] = None
groups_fault cpus groups place before (group ∷ rest) =
    option_or (group_fault cpus groups place before group) (groups_fault cpus groups (place + 1) (before + group.count) rest)

-- how many tasks groups have
abbrev pub tasks_in : List Group → ℕ
tasks_in [] = 0
tasks_in (group ∷ rest) = group.count + tasks_in rest

-- the first fault of a plan, in the order: the number of CPUs, each group, that there is a task
abbrev pub plan_fault : Plan → Option OpenFault
plan_fault plan =
    option_or (unless (is_number_of_cpus plan.cpus) BadCpus)
    (option_or (groups_fault plan.cpus (length plan.groups.items) 0 0 plan.groups.items)
    (unless (nat_lt 0 (tasks_in plan.groups.items)) BadTasks))
