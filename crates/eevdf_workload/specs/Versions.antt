-- What a workload of each version may hold.
use Rattle.std.specs.Prelude.{ℕ, ◌==◌, nat_lt, true, false, if◌then◌else◌, List, codes, Option, Some, None}
use Rattle.eevdf_ops.specs.Numbers.{checked_cpu, cpu_limit}
use Rattle.eevdf_workload.specs.{declared.version.Version.Version, declared.version.Limits.Limits}
use Rattle.eevdf_workload.specs.declared.version.Version.TheVariants.{One, Two, Three, Four}

abbrev pub limits_of : Version → Limits
limits_of One = record { cpus = 16; deeds = 160000; renice = false; begin = false; doze = false }
limits_of Two = record { cpus = cpu_limit; deeds = 640000; renice = true; begin = false; doze = false }
limits_of Three = record { cpus = cpu_limit; deeds = 640000; renice = true; begin = true; doze = false }
limits_of Four = record { cpus = cpu_limit; deeds = 640000; renice = true; begin = true; doze = true }

-- the version of a number
abbrev pub checked_version : ℕ → Option Version
checked_version n = if n == 1 then Some One else if n == 2 then Some Two else if n == 3 then Some Three else if n == 4 then Some Four else None

-- the CPU of a number, where the number is within the limits
abbrev pub cpu_within : Limits → ℕ → Option ℕ
cpu_within limits n = if nat_lt n limits.cpus then checked_cpu n else None

-- the number of a version in a workload
abbrev pub version_text : Version → List ℕ
version_text One = codes "1"
version_text Two = codes "2"
version_text Three = codes "3"
version_text Four = codes "4"
