-- The limits of the scheduler's numbers, each in one place.
use Rattle.std.specs.Prelude.{ℕ, ◌^◌, ◌&&◌, Bool, ℤ, pos, negsuc, int_le, nat_le, unsigned_abs, if◌then◌else◌, Option, Some, None}

-- a nice level: -20 to 19
abbrev pub is_nice_level : ℤ → Bool
is_nice_level level = int_le (negsuc 19) level && int_le level (pos 19)

abbrev pub checked_level : ℤ → Option ℤ
checked_level level = if is_nice_level level then Some level else None

-- a slice, in nanoseconds: 0.1 to 100 milliseconds
abbrev pub is_slice : ℕ → Bool
is_slice ns = nat_le 100000 ns && nat_le ns 100000000

abbrev pub checked_slice : ℕ → Option ℕ
checked_slice ns = if is_slice ns then Some ns else None

-- the length of a tick, in nanoseconds: up to a second
abbrev pub is_tick : ℕ → Bool
is_tick ns = nat_le 1 ns && nat_le ns 1000000000

abbrev pub checked_tick : ℕ → Option ℕ
checked_tick ns = if is_tick ns then Some ns else None

-- a virtual time that a task or a queue may have: -2^60 to 2^60
abbrev pub is_in_range : ℤ → Bool
is_in_range z = nat_le (unsigned_abs z) (2 ^ 60)
