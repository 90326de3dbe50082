-- Where a task with a lag is placed in a queue that has runnable tasks.
use Rattle.std.specs.Prelude.{ℕ, ◌+◌, ℤ, pos, ◌-ℤ◌, ◌*ℤ◌, Option, Some, None, if◌then◌else◌}
use Rattle.std.specs.Int.{int_div_euclid}
use Rattle.eevdf_weight.specs.Limits.{is_in_range}

-- a quotient rounded down, of a negative number too
abbrev pub floor_div : ℤ → ℕ → ℤ
floor_div z n = int_div_euclid z (pos n)

-- a virtual time, where it is in range
abbrev pub within_range : ℤ → Option ℤ
within_range z = if is_in_range z then Some z else None

-- the virtual runtime at which a task of this weight and lag joins tasks of this total weight at this
-- virtual time: the lag is stretched, since the task's own weight then draws the virtual time along
abbrev pub placement_of : ℤ → ℕ → ℤ → ℕ → ℤ
placement_of time total lag weight = time -ℤ floor_div (lag *ℤ pos (total + weight)) total
