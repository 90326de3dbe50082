-- Tasks gone over in ascending number.
use Rattle.std.specs.Prelude.{ℕ, ℤ, List, [], ◌∷◌, map, nat_lt, if◌then◌else◌}
use Rattle.std.specs.FinMap as finite
use Rattle.eevdf_queue.specs.{declared.entry.Entry.Entry, State.State, State.Sleeper}

-- of tasks in ascending number those from a number on
abbrev pub from_number : {X : Type 0} → ℕ → List (ℕ × X) → List (ℕ × X)
from_number n [] = []
from_number n (e ∷ es) = if nat_lt e.0 n then from_number n es else e ∷ es

-- a sleeping task with the lag that it keeps
abbrev pub with_lag : ℕ × Sleeper → ℕ × ℤ
with_lag e = (e.0, e.1.lag)

-- the runnable tasks with their entries
abbrev pub runnable_tasks : State → List (ℕ × Entry)
runnable_tasks q = finite.entries q.runnable

-- the sleeping tasks with the lags that they keep
abbrev pub sleeping_tasks : State → List (ℕ × ℤ)
sleeping_tasks q = map with_lag (finite.entries q.asleep)
