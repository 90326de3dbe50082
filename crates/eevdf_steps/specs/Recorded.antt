-- The work on the queues with its history.
use Rattle.std.specs.Prelude.{ℕ, [], replicate, None}
use Rattle.eevdf_ops.specs.Machine.{Machine}
use Rattle.eevdf_steps.specs.{Journals.Journal, Work.Work}

pub record Recorded : Type 0 where
  pub work : Work
  pub journal : Journal

abbrev pub recorded : Work → Journal → Recorded
recorded work journal = record { work = work; journal = journal }

-- nobody holds anything, and nothing was done
abbrev pub done_at_start : Machine → ℕ → ℕ → Recorded
done_at_start m callers room = record {
  work = record { machine = m; hands = replicate callers None; answers = replicate callers None };
  journal = record { lines = []; room = room };
}
