-- The numbers of tasks.
use Rattle.std.specs.Prelude.{ℕ, nat_lt, if◌then◌else◌, Option, Some, None}

-- tasks are numbered below this
abbrev pub number_limit : ℕ
number_limit = 1024

abbrev pub checked_number : ℕ → Option ℕ
checked_number n = if nat_lt n number_limit then Some n else None
