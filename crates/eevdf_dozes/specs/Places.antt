-- Where each task of a queue stands.
use Rattle.std.specs.Prelude.{ℕ, ℤ, ◌+ℤ◌, ◌≤ℤ◌, Option, Some, None}
use Rattle.std.specs.FinMap as map
use Rattle.eevdf_queue.specs.{declared.entry.Entry.Entry, State.State}

abbrev pub place_by : ℤ → Option ℤ → Option Entry → Option ℤ
place_by shift kept None = kept
place_by shift kept (Some e) = Some (e.v +ℤ shift)

-- where a task stands: at its virtual runtime with the shift added while it is runnable, and else at the place that is kept of it, if one
-- is; so a rebase moves none
abbrev pub place_of : State → ℕ → Option ℤ
place_of q task = place_by q.shift (map.get q.places task) (map.get q.runnable task)

-- who stood somewhere stands there or later
abbrev pub IsNoEarlier : Option ℤ → Option ℤ → Type 0
IsNoEarlier None now = Unit {0}
IsNoEarlier (Some before) None = ⊥
IsNoEarlier (Some before) (Some now) = before ≤ℤ now
