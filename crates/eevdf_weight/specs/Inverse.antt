-- Numbers to multiply by in the place of a division.
use Rattle.std.specs.Prelude.{ℕ, ◌+◌, ◌*◌, ◌≤◌, ◌<◌, ◌^◌}

-- 2^64 over the weight, rounded up
pub record IsInverse (weight inverse : ℕ) : Type 0 where
  pub enough : 2 ^ 64 ≤ inverse * weight
  pub least : inverse * weight < 2 ^ 64 + weight
