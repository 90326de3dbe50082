-- What a doze and the wake after it leave of the bounds of the others.
use Rattle.std.specs.Prelude.{◌≡◌, ℕ, ℤ, pos, ◌-ℤ◌, ◌≤ℤ◌, true, IfSome, Some}
use Rattle.std.specs.FinMap.{get}
use Rattle.eevdf_queue.specs.{declared.entry.Entry.Entry, State.State, Candidate.is_running, Doze.doze, Wake.wake}
use Rattle.eevdf_fair_queue.specs.{declared.bounds.Bounds.Bounds, Bounds.late_by, Bounds.settled, Fair.IsFair, Fair.mark_of}

-- a task that sleeps here owes nothing, and its place, if it has one, isn't past the furthest
pub record SleepsBehind (q : State) (b : Bounds) (task : ℕ) : Type 0 where
  pub no_debt : IfSome (get q.asleep task) (λ s. pos 0 ≤ℤ s.lag)
  pub place : IfSome (get q.places task) (λ place. (place -ℤ q.shift) ≤ℤ b.furthest)

-- so does one that dozes off
abbrev pub DozesBehind : State → Bounds → ℕ → Type 0
DozesBehind q b task =
    (e : Entry) → IsFair q b → is_running q.running task ≡ true → get q.runnable task ≡ Some e → SleepsBehind (doze q task) b task

-- other bounds say of a deadline what these do, and have the furthest where it was
pub record KeepsBound (b c : Bounds) (deadline : ℤ) : Type 0 where
  pub furthest : c.furthest ≡ b.furthest
  pub late : late_by c deadline ≡ late_by b deadline

-- the bounds after its wake do, for each task that was runnable
abbrev pub WakeKeepsBounds : State → Bounds → ℕ → Type 0
WakeKeepsBounds q b task =
    (other : ℕ) (f : Entry) → IsFair q b → SleepsBehind q b task → get q.runnable other ≡ Some f
    → KeepsBound b (settled b (mark_of q task) (get (wake q task).1.runnable task)) f.d
