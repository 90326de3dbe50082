-- What an outcome has to do with the programs of its setup.
use Rattle.std.specs.Prelude.{◌≡◌, ℕ, ◌*◌, ◌+◌, ◌<◌, List, [], ◌++◌, slice_index_or}
use Rattle.eevdf_ops.specs.{declared.deeds.Op.Op, Outcome.Outcome}
use Rattle.eevdf_ops.specs.Setup.{Setup, cpus_of, homes_of}
use Rattle.eevdf_ops.specs.Programs.{FitsProgram, lines_by, posts_in, wakes_from}

abbrev pub program_of : Setup → ℕ → List Op
program_of s cpu = slice_index_or s.programs cpu []

-- the requests from a sender to a home that were posted and not drained
abbrev pub left_of : Setup → Outcome → ℕ → ℕ → List ℕ
left_of s o sender home = slice_index_or o.left (sender * cpus_of s + home) []

-- each CPU's lines are its program's operations, in order and each once, where a post has no line and a drain the wakes
-- that it found; and of the requests that a program posts
-- to a home the first ones were drained there, in the order of posting and each once, and the others are left
pub record FollowsPrograms (s : Setup) (o : Outcome) : Type 0 where
  pub operations : (p : ℕ) → FitsProgram p (lines_by p o.lines) (program_of s p)
  pub requests : (q c : ℕ) → c < cpus_of s
      → posts_in (homes_of s) c (program_of s q) ≡ wakes_from q (lines_by c o.lines) ++ left_of s o q c
