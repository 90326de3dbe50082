-- The texts that are read as operations and deeds, and which of them are within the limits of a version.
use Rattle.std.specs.Prelude.{◌≡◌, ◌<◌, ℕ, ℤ, nat_lt, Bool, true, ◌&&◌}
use Rattle.eevdf_weight.specs.Limits.{is_nice_level, is_slice, is_tick}
use Rattle.eevdf_ops.specs.{Numbers.cpu_limit, declared.deeds.Op.Op, declared.deeds.Deed.Deed, declared.origin.Origin.Origin, Origins.decider, Origins.origin_of, Signatures.arguments_of}
use Rattle.eevdf_ops.specs.declared.signature.Arguments.{Arguments, TheVariants.Nothing, TheVariants.Time, TheVariants.Task, TheVariants.Level, TheVariants.State, TheVariants.NewTask, TheVariants.Source}
use Rattle.eevdf_ops.specs.declared.deeds.Op.TheVariants.{Doze, Pull, Renice, Begin, End, Set, Rebase}
use Rattle.eevdf_ops.specs.declared.origin.Origin.TheVariants.{Operation, Request}
use Rattle.eevdf_workload.specs.{declared.version.Version.Version, Versions.limits_of}
pub use Rattle.eevdf_ops.specs.Texts.{operation_text, numbered_deed_text}

-- whether an operation is within the limits of a version
abbrev pub knows_operation : Version → Op → Bool
knows_operation version (Pull source) = nat_lt source (limits_of version).cpus
knows_operation version (Renice task nice) = (limits_of version).renice
knows_operation version (Begin task nice slice) = (limits_of version).begin
knows_operation version (End task) = (limits_of version).begin
knows_operation version (Set task nice slice) = (limits_of version).begin
knows_operation version Rebase = (limits_of version).begin
knows_operation version (Doze task) = (limits_of version).doze
knows_operation version other = true

-- whether what a deed comes from is: of a request that its sender is one of the version's CPUs
abbrev pub knows_origin : Version → Origin → Bool
knows_origin version (Operation o) = knows_operation version o
knows_origin version (Request task sender) = nat_lt sender (limits_of version).cpus

-- and a deed with the CPU that does it
abbrev pub knows_deed : Version → Deed → Bool
knows_deed version d = nat_lt (decider d) (limits_of version).cpus && knows_origin version (origin_of d)

-- a task, a level and a slice are in the ranges of their types
abbrev pub IsStateInRange : ℕ → ℤ → ℕ → Type 0
IsStateInRange task nice slice = (task < 1024) × (is_nice_level nice ≡ true) × (is_slice slice ≡ true)

-- the numbers that stand behind the verb of an operation are
abbrev pub AreInRange : Arguments → Type 0
AreInRange Nothing = Unit {0}
AreInRange (Time ns) = is_tick ns ≡ true
AreInRange (Task task) = task < 1024
AreInRange (Level task nice) = (task < 1024) × (is_nice_level nice ≡ true)
AreInRange (State task nice slice) = IsStateInRange task nice slice
AreInRange (NewTask task nice slice) = IsStateInRange task nice slice
AreInRange (Source source) = source < cpu_limit

-- and those of what a deed comes from are
abbrev pub IsOriginInRange : Origin → Type 0
IsOriginInRange (Operation o) = AreInRange (arguments_of o)
IsOriginInRange (Request task sender) = (task < 1024) × (sender < cpu_limit)
