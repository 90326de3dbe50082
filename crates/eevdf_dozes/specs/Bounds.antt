-- Bounds of the requests, slices and credits of a history, and what keeps within them.
use Rattle.std.specs.Prelude.{◌≡◌, ℕ, ◌≤◌, ℤ, pos, ◌+ℤ◌, ◌≤ℤ◌, true, List, [], ◌∷◌, None, Some}
use Rattle.std.specs.{FinMap.get, List.AllByRecursion}
use Rattle.eevdf_weight.specs.{Weight.weight_of, Charge.lag_limit_of}
use Rattle.eevdf_queue.specs.{declared.entry.Entry.Entry, declared.sleeper.Sleeper.Sleeper, State.State, Moves.request_of}
use Rattle.eevdf_fairness.specs.Turns.{IsFresh}
use Rattle.eevdf_dozes.specs.{Stretches.Watch, Punctual.AllCount}
use Rattle.eevdf_dozes.specs.Histories.{Call, Yield, SetSlice, Wake, Touch, after_call, AreAllowed}

-- the tasks of a history besides the one that stays, the longest of all requests, and the longest slice of each task
pub record Bounds : Type 0 where
  pub others : List ℕ
  pub request : ℕ
  pub slice_of : ℕ → ℕ

-- what is within these bounds: all runnable tasks count, no request is longer, and nobody who sleeps is owed more than two slices
pub record IsWithin (w : Watch) (b : Bounds) (q : State) : Type 0 where
  pub count : AllCount w q.runnable
  pub requests : (t : ℕ) (e : Entry) → get q.runnable t ≡ Some e → e.d ≤ℤ (e.v +ℤ pos b.request)
  pub credits : (t : ℕ) (s : Sleeper) → w.counts t ≡ true → get q.asleep t ≡ Some s
      → s.lag ≤ℤ pos (lag_limit_of (b.slice_of t) (weight_of s.nice))

-- before each of the calls, and after the last
abbrev pub IsWithinAlong : Watch → Bounds → State → List Call → Type 0
IsWithinAlong w b q [] = IsWithin w b q
IsWithinAlong w b q (call ∷ calls) = IsWithin w b q × IsWithinAlong w b (after_call q call) calls

-- ---- what keeps within them
-- the slice of a task is no longer than its longest, and a request of that at its nice level no longer than the longest of all
pub record SliceIsWithin (b : Bounds) (task : ℕ) (nice : ℤ) (slice : ℕ) : Type 0 where
  pub no_longer : slice ≤ b.slice_of task
  pub request : request_of nice (b.slice_of task) ≤ b.request

abbrev pub EntryIsWithin : Bounds → ℕ → Entry → Type 0
EntryIsWithin b t e = SliceIsWithin b t e.nice e.slice × (e.d ≤ℤ (e.v +ℤ pos b.request))

abbrev pub SleeperIsWithin : Bounds → ℕ → Sleeper → Type 0
SleeperIsWithin b t s = SliceIsWithin b t s.nice s.slice × (s.lag ≤ℤ pos (lag_limit_of (b.slice_of t) (weight_of s.nice)))

pub record AllAreWithin (w : Watch) (b : Bounds) (q : State) : Type 0 where
  pub count : AllCount w q.runnable
  pub runnable : (t : ℕ) (e : Entry) → get q.runnable t ≡ Some e → EntryIsWithin b t e
  pub asleep : (t : ℕ) (s : Sleeper) → w.counts t ≡ true → get q.asleep t ≡ Some s → SleeperIsWithin b t s

-- nobody yields, no task gets a longer slice than its longest, only those that count wake, and none becomes runnable otherwise
abbrev pub LeavesWithin : Watch → Bounds → Call → Type 0
LeavesWithin w b Yield = ⊥
LeavesWithin w b (SetSlice task slice) = slice ≤ b.slice_of task
LeavesWithin w b (Wake task) = w.counts task ≡ true
LeavesWithin w b (Touch task r) = get r.runnable task ≡ None
LeavesWithin w b call = Unit {0}

-- such calls keep within the bounds
abbrev pub BoundsAreKept : Type 0
BoundsAreKept =
    (w : Watch) (b : Bounds) (ran : ℕ) (q : State) (calls : List Call) → AllAreWithin w b q → AreAllowed w ran q calls
    → AllByRecursion (LeavesWithin w b) calls → IsWithinAlong w b q calls

-- a fresh start is within them where its slices are
abbrev pub FreshStartIsWithin : Type 0
FreshStartIsWithin =
    (w : Watch) (b : Bounds) (q : State) (v : ℤ) → IsFresh v q.runnable → AllCount w q.runnable
    → ((t : ℕ) (e : Entry) → get q.runnable t ≡ Some e → SliceIsWithin b t e.nice e.slice)
    → ((t : ℕ) (s : Sleeper) → w.counts t ≡ true → get q.asleep t ≡ Some s → SleeperIsWithin b t s)
    → AllAreWithin w b q
