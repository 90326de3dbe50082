-- The first fault of a setup.
use Rattle.std.specs.Prelude.{◌≡◌, ◌⊎◌, ℕ, ◌+◌, nat_lt, nat_le, Bool, ◌&&◌, List, [], ◌∷◌, map, length, if◌then◌else◌, Option, Some, None, Result, MatchResult}
use Rattle.std.specs.Option.{option_or}
use Rattle.eevdf_queue.specs.Moves.{fresh_entry, is_entry_in_range}
use Rattle.eevdf_ops.specs.{declared.task_spec.TaskSpec.TaskSpec, declared.deeds.Op.Op, declared.setup_fault.SetupFault.SetupFault}
use Rattle.eevdf_ops.specs.{Setup.Setup, Setup.is_at_home, Setup.is_source, Setup.is_task}
use Rattle.eevdf_ops.specs.{declared.named.Named.Named, Setup.named}
use Rattle.eevdf_ops.specs.declared.named.Named.TheVariants.{Nothing, Task, TaskAtHome, Source}
use Rattle.eevdf_ops.specs.declared.setup_fault.SetupFault.TheVariants.{BadCpus, BadTasks, BadHome, BadStart, TooLong, UnknownTask, BadPull, BadBegin, Memory}
use Rattle.eevdf_ops.specs.Numbers.{most_cpus, most_tasks, most_operations}

-- a fault, unless the test passes
abbrev pub unless : Bool → SetupFault → Option SetupFault
unless passes f = if passes then None else Some f

-- the start of a task, and the deadline that it gives, are in range
abbrev pub starts_in_range : TaskSpec → Bool
starts_in_range t = is_entry_in_range (fresh_entry t.start t.nice t.slice)

abbrev pub task_fault : ℕ → ℕ → TaskSpec → Option SetupFault
task_fault cpus place t = option_or (unless (nat_lt t.home cpus) (BadHome place)) (unless (starts_in_range t) (BadStart place))

abbrev pub tasks_fault : ℕ → ℕ → List TaskSpec → Option SetupFault
tasks_fault cpus place [] = None
tasks_fault cpus place (t ∷ ts) = option_or (task_fault cpus place t) (tasks_fault cpus (place + 1) ts)

-- an operation names only tasks of the setup, pulls from another CPU of it, and begins a task that has its home here
abbrev pub named_fault : List ℕ → ℕ → ℕ → ℕ → Named → Option SetupFault
named_fault homes cpus cpu place Nothing = None
named_fault homes cpus cpu place (Task task) = unless (is_task homes task) (UnknownTask cpu place)
named_fault homes cpus cpu place (TaskAtHome task) =
    option_or (unless (is_task homes task) (UnknownTask cpu place)) (unless (is_at_home homes task cpu) (BadBegin cpu place))
named_fault homes cpus cpu place (Source source) = unless (is_source cpus cpu source) (BadPull cpu place)

abbrev pub operation_fault : List ℕ → ℕ → ℕ → ℕ → Op → Option SetupFault
operation_fault homes cpus cpu place o = named_fault homes cpus cpu place (named o)

abbrev pub operations_fault : List ℕ → ℕ → ℕ → ℕ → List Op → Option SetupFault
operations_fault homes cpus cpu place [] = None
operations_fault homes cpus cpu place (o ∷ os) =
    option_or (operation_fault homes cpus cpu place o) (operations_fault homes cpus cpu (place + 1) os)

abbrev pub program_fault : List ℕ → ℕ → ℕ → List Op → Option SetupFault
program_fault homes cpus cpu program =
    option_or (unless (nat_le (length program) most_operations) (TooLong cpu)) (operations_fault homes cpus cpu 0 program)

abbrev pub programs_fault : List ℕ → ℕ → ℕ → List (List Op) → Option SetupFault
programs_fault homes cpus cpu [] = None
programs_fault homes cpus cpu (p ∷ ps) = option_or (program_fault homes cpus cpu p) (programs_fault homes cpus (cpu + 1) ps)

abbrev pub is_count : ℕ → ℕ → Bool
is_count n most = nat_le 1 n && nat_le n most

-- the first fault, in the order: the number of CPUs, that of tasks, each task, each program with its operations
abbrev pub setup_fault : List TaskSpec → List (List Op) → Option SetupFault
setup_fault tasks programs =
    option_or (unless (is_count (length programs) most_cpus) BadCpus)
    (option_or (unless (is_count (length tasks) most_tasks) BadTasks)
    (option_or (tasks_fault (length programs) 0 tasks) (programs_fault (map (λ (t : TaskSpec). t.home) tasks) (length programs) 0 programs)))

-- the first fault is answered; where there is none, the setup, or out of memory
abbrev pub IsSetupOf : List TaskSpec → List (List Op) → Result Setup SetupFault → Type 0
IsSetupOf tasks programs result =
    MatchResult result (λ s. (setup_fault tasks programs ≡ None) × (s ≡ record { tasks = tasks; programs = programs }))
    (λ f. (setup_fault tasks programs ≡ Some f) ⊎ ((setup_fault tasks programs ≡ None) × (f ≡ Memory)))
