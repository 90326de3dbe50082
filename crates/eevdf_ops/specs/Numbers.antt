-- The numbers of CPUs, and the other limits of a setup.
use Rattle.std.specs.Prelude.{ℕ, nat_lt, if◌then◌else◌, Option, Some, None}
use Rattle.eevdf_queue.specs.Numbers.{number_limit}

-- CPUs are numbered below this
abbrev pub cpu_limit : ℕ
cpu_limit = 64

abbrev pub checked_cpu : ℕ → Option ℕ
checked_cpu n = if nat_lt n cpu_limit then Some n else None

-- a setup has at most so many CPUs
abbrev pub most_cpus : ℕ
most_cpus = cpu_limit

-- a setup has at most so many tasks
abbrev pub most_tasks : ℕ
most_tasks = number_limit

-- a program has at most so many operations
abbrev pub most_operations : ℕ
most_operations = 10000
