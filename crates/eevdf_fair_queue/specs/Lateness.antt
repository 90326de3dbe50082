-- How late a request is.
use Rattle.std.specs.Prelude.{◌≡◌, ℕ, ◌^◌, ℤ, pos, neg_ℤ, ◌+ℤ◌, ◌≤ℤ◌, Option, Some, None}
use Rattle.std.specs.{FinMap.get, Int.int_min, Option.option_and_then}
use Rattle.eevdf_queue.specs.{declared.entry.Entry.Entry, State.State, Sums.virtual_time, Pick.pick_of}
use Rattle.eevdf_dozes.specs.Punctual.{IsTimeWithin}
use Rattle.eevdf_fair_queue.specs.{declared.bounds.Bounds.Bounds, declared.bounds.Mark.Mark, Bounds.late_by, Bounds.settled_at, Fair.IsNear, Fair.IsFair}

-- the exact virtual time is past the deadline of this task by no more than a number
abbrev pub IsLateBy : State → ℕ → ℤ → Type 0
IsLateBy q task by = (e : Entry) → get q.runnable task ≡ Some e → IsTimeWithin q.runnable (e.d +ℤ by)

-- and past that of no runnable task
abbrev pub NoneIsLaterThan : State → ℤ → Type 0
NoneIsLaterThan q by = (task : ℕ) → IsLateBy q task by

-- what is answered for all runnable tasks: the bound at the lesser one of a time and the pick's deadline, and 0 where there is no pick
abbrev pub bound_by : Bounds → ℤ → Option Entry → ℤ
bound_by b time None = pos 0
bound_by b time (Some e) = late_by b (int_min time e.d)

-- the time is the virtual time: no deadline is before the lesser one
abbrev pub lateness_bound : State → Bounds → ℤ
lateness_bound q b = bound_by b (virtual_time q) (option_and_then (get q.runnable) (pick_of q.runnable))

-- a task that comes to a virtual runtime near a deadline, and isn't due before the mark, leaves the bound of that deadline as it is
abbrev pub NearArrivalsKeepBounds : Type 0
NearArrivalsKeepBounds =
    (b : Bounds) (m : Mark) (e : Entry) (deadline : ℤ) → pos 0 ≤ℤ b.longest → e.v ≤ℤ pos (2 ^ 60) → neg_ℤ (pos (2 ^ 60)) ≤ℤ deadline
    → m.d ≤ℤ e.d → IsNear b e.v deadline → late_by (settled_at b (Some m) e) deadline ≡ late_by b deadline

-- a task that comes no further than the furthest leaves the bound of each deadline that was there as it is, also where it is due before the mark
abbrev pub ArrivalsKeepBounds : Type 0
ArrivalsKeepBounds =
    (q : State) (b : Bounds) (task : ℕ) (f : Entry) → IsFair q b → get q.runnable task ≡ Some f
    → (m : Mark) (e : Entry) → e.v ≤ℤ b.furthest → late_by (settled_at b (Some m) e) f.d ≡ late_by b f.d
