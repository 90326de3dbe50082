-- How real time becomes virtual time.
use Rattle.std.specs.Prelude.{ℕ, ◌*◌, ◌/◌}

-- the virtual time that a weight ages in so many nanoseconds, rounded down
unfoldable pub charge_of : ℕ → ℕ → ℕ
charge_of ns weight = ns * 1024 / weight

-- how far from 0 the lag of a task may be kept: two of its slices
abbrev pub lag_limit_of : ℕ → ℕ → ℕ
lag_limit_of slice weight = charge_of (2 * slice) weight
