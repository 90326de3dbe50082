-- How late a request is in time: in the nanoseconds that the CPU needs for it, with the load that it has.
use Rattle.std.specs.Prelude.{◌≡◌, ℕ, ◌+◌, ◌*◌, ◌/◌, ℤ, pos, negsuc, ◌+ℤ◌, ◌*ℤ◌, ◌≤ℤ◌, Some}
use Rattle.std.specs.FinMap.{get}
use Rattle.eevdf_queue.specs.{declared.entry.Entry.Entry, State.State, Sums.total_weight, Sums.total_moment}

-- the nanoseconds that take the virtual time so far, at a load, rounded up
abbrev pub in_time : ℤ → ℕ → ℕ
in_time (pos by) load = (by * load + 1023) / 1024
in_time (negsuc by) load = 0

-- the exact virtual time is past the deadline of each runnable task by no more than what it goes in these nanoseconds: both sides are times
-- the load
abbrev pub NoneIsLaterInTime : State → ℕ → Type 0
NoneIsLaterInTime q ns =
    (task : ℕ) (e : Entry) → get q.runnable task ≡ Some e
    → total_moment q.runnable ≤ℤ ((e.d *ℤ pos (total_weight q.runnable)) +ℤ pos (1024 * ns))
