-- What the bytes of a workload mean.
use Rattle.std.specs.Prelude.{codes, ℕ, ◌+◌, Bool, false, ℤ, pos, nat_lt, nat_le, if◌then◌else◌, List, [], ◌∷◌, length, Option, Some, None, option_and_then, Result, Ok, Err}
use Rattle.std.specs.{Option.ok_or, Option.option_or, Str.is_utf8}
use Rattle.toml.specs.Data.{Data, table, Members, get_member, as_str, as_integer}
use Rattle.toml.specs.Parse.{parse_document}
use Rattle.eevdf_weight.specs.Limits.{checked_level, checked_slice}
use Rattle.eevdf_ops.specs.{Setup.Setup, Setup.allows, Faults.setup_fault, Faults.unless, declared.task_spec.TaskSpec.TaskSpec}
use Rattle.eevdf_ops.specs.{declared.deeds.Op.Op, declared.deeds.Deed.Deed, declared.setup_fault.SetupFault.SetupFault}
use Rattle.eevdf_ops.specs.declared.setup_fault.SetupFault.TheVariants.{BadCpus}
use Rattle.eevdf_workload.specs.{declared.version.Version.Version, declared.version.Limits.Limits}
use Rattle.eevdf_workload.specs.declared.load_fault.LoadFault.{LoadFault}
use Rattle.eevdf_workload.specs.declared.load_fault.Key.TheVariants as key
use Rattle.eevdf_workload.specs.declared.load_fault.LoadFault.TheVariants as fault
use Rattle.eevdf_workload.specs.MeaningSteps.{◌>>=◌, good_at, required, if_present, integer_or, boolean_or, natural, array_at, at_most, each}
use Rattle.eevdf_workload.specs.Versions.{checked_version, cpu_within, limits_of}
use Rattle.eevdf_workload.specs.Words.{words, operation, deed_in}

-- a workload: what the machine is set up from, the callers in the order of their steps and the deeds that are done on
-- it, if it lists them
pub record Workload : Type 0 where
  pub setup : Setup
  pub order : Option (List ℕ)
  pub script : Option (List Deed)

-- a workload has at most so many bytes
abbrev pub most_bytes : ℕ
most_bytes = 16777216

-- as many bytes are read at most, which is enough to see that there are too many
abbrev pub read_limit : ℕ
read_limit = most_bytes + 1

-- ---- the version

abbrev pub version_of : Data → Result Version LoadFault
version_of d = good_at key.Version (option_and_then checked_version (option_and_then natural (as_integer d)))

unfoldable pub version : Members → Result Version LoadFault
version document = required key.Version version_of (get_member (codes "version") document)

-- ---- the tasks

abbrev pub default_home : ℤ
default_home = pos 0

abbrev pub default_nice : ℤ
default_nice = pos 0

abbrev pub default_slice : ℤ
default_slice = pos 3000000

abbrev pub default_start : ℤ
default_start = pos 0

abbrev pub checked_home : Limits → ℤ → Option ℕ
checked_home limits z = option_and_then (cpu_within limits) (natural z)

abbrev pub checked_length : ℤ → Option ℕ
checked_length z = option_and_then checked_slice (natural z)

-- the keys of a task
unfoldable pub home_of : Limits → ℕ → Members → Result ℕ LoadFault
home_of limits place task = good_at (key.Home place) (option_and_then (checked_home limits) (integer_or default_home (get_member (codes "home") task)))

unfoldable pub nice_of : ℕ → Members → Result ℤ LoadFault
nice_of place task = good_at (key.Nice place) (option_and_then checked_level (integer_or default_nice (get_member (codes "nice") task)))

unfoldable pub slice_of : ℕ → Members → Result ℕ LoadFault
slice_of place task = good_at (key.Slice place) (option_and_then checked_length (integer_or default_slice (get_member (codes "slice") task)))

unfoldable pub start_of : ℕ → Members → Result ℤ LoadFault
start_of place task = good_at (key.Start place) (integer_or default_start (get_member (codes "start") task))

unfoldable pub asleep_of : ℕ → Members → Result Bool LoadFault
asleep_of place task = good_at (key.Asleep place) (boolean_or false (get_member (codes "asleep") task))

-- a task, of which the number is its place
unfoldable pub task_of : Limits → ℕ → Members → Result TaskSpec LoadFault
task_of limits place task = do
  home ← home_of limits place task
  nice ← nice_of place task
  slice ← slice_of place task
  start ← start_of place task
  asleep ← asleep_of place task
  Ok (record { home = home; nice = nice; slice = slice; start = start; asleep = asleep })

unfoldable pub task_at : Limits → ℕ → Data → Result TaskSpec LoadFault
task_at limits place (table task) = task_of limits place task
task_at limits place _ = Err (fault.BadValue (key.Task place))

abbrev pub tasks_of : Limits → Data → Result (List TaskSpec) LoadFault
tasks_of limits d = array_at key.Tasks d >>= each (task_at limits) 0

unfoldable pub tasks : Limits → Members → Result (List TaskSpec) LoadFault
tasks limits document = required key.Tasks (tasks_of limits) (get_member (codes "task") document)

-- ---- the programs

unfoldable pub operation_at : Limits → ℕ → ℕ → Data → Result Op LoadFault
operation_at limits cpu place d = good_at (key.Op cpu place) (option_and_then (λ text. operation limits (words text)) (as_str d))

unfoldable pub program_at : Limits → ℕ → Data → Result (List Op) LoadFault
program_at limits cpu d = array_at (key.Program cpu) d >>= each (operation_at limits cpu) 0

abbrev pub programs_of : Limits → Data → Result (List (List Op)) LoadFault
programs_of limits d = array_at key.Programs d >>= each (program_at limits) 0

unfoldable pub programs : Limits → Members → Result (List (List Op)) LoadFault
programs limits document = required key.Programs (programs_of limits) (get_member (codes "program") document)

-- ---- the order

unfoldable pub caller_at : ℕ → Data → Result ℕ LoadFault
caller_at place d = good_at (key.Order place) (option_and_then natural (as_integer d))

abbrev pub order_of : Data → Result (List ℕ) LoadFault
order_of d = array_at key.Orders d >>= each caller_at 0

unfoldable pub order : Members → Result (Option (List ℕ)) LoadFault
order document = if_present order_of (get_member (codes "order") document)

-- ---- the script

unfoldable pub deed_at : Limits → ℕ → Data → Result Deed LoadFault
deed_at limits place d = good_at (key.Script place) (option_and_then (λ text. deed_in limits (words text)) (as_str d))

abbrev pub script_of : Limits → Data → Result (List Deed) LoadFault
script_of limits d = array_at key.Scripts d >>= at_most limits.deeds key.Scripts >>= each (deed_at limits) 0

unfoldable pub script : Limits → Members → Result (Option (List Deed)) LoadFault
script limits document = if_present (script_of limits) (get_member (codes "script") document)

-- the first deed that the setup doesn't allow is a bad value
abbrev pub allowed_from : Setup → ℕ → List Deed → Result (Unit {0}) LoadFault
allowed_from setup place [] = Ok tt
allowed_from setup place (d ∷ ds) = if allows setup d then allowed_from setup (place + 1) ds else Err (fault.BadValue (key.Script place))

abbrev pub allowed : Setup → Option (List Deed) → Result (Unit {0}) LoadFault
allowed setup (Some ds) = allowed_from setup 0 ds
allowed setup None = Ok tt

-- ---- the whole

-- the first fault: more CPUs than the limits have, or else the setup's own
abbrev pub fault_within : Limits → List TaskSpec → List (List Op) → Option SetupFault
fault_within limits tasks programs = option_or (unless (nat_le (length programs) limits.cpus) BadCpus) (setup_fault tasks programs)

-- the setup, where it has no fault
abbrev pub set_up : Option SetupFault → Setup → Result Setup LoadFault
set_up (Some f) setup = Err (fault.Setup f)
set_up None setup = Ok setup

unfoldable pub setup_of : Limits → List TaskSpec → List (List Op) → Result Setup LoadFault
setup_of limits tasks programs = set_up (fault_within limits tasks programs) (record { tasks = tasks; programs = programs })

-- what a document describes within the limits of its version
unfoldable pub workload_in : Limits → Members → Result Workload LoadFault
workload_in limits document = do
  specs ← tasks limits document
  operations ← programs limits document
  callers ← order document
  deeds ← script limits document
  setup ← setup_of limits specs operations
  nothing ← allowed setup deeds
  Ok (record { setup = setup; order = callers; script = deeds })

-- what a document describes
unfoldable pub workload_of : Members → Result Workload LoadFault
workload_of document = version document >>= (λ v. workload_in (limits_of v) document)

-- the bytes as a document
unfoldable pub document_of : List ℕ → Result Members LoadFault
document_of bytes = ok_or (if is_utf8 bytes then parse_document bytes else None) fault.NotToml

-- the workload that the bytes describe, or the first fault; out of memory is never one
unfoldable pub meaning : List ℕ → Result Workload LoadFault
meaning bytes = if nat_lt most_bytes (length bytes) then Err fault.TooLarge else document_of bytes >>= workload_of
