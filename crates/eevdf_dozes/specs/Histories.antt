-- Calls of a queue one after the other, of which those of the tasks that count are dozes and wakes: they are a stretch.
use Rattle.std.specs.Prelude.{◌≡◌, ℕ, ◌+◌, ◌≤◌, false, List, [], ◌∷◌}
use Rattle.eevdf_queue.specs.{State.State, Leaving.nobody_runs, Yield.yield_now, SliceChange.set_slice, Doze.doze, Wake.wake, Rebase.rebase}
use Rattle.eevdf_dozes.specs.Punctual.{AllCount, NoneIsPutPast}
use Rattle.eevdf_dozes.specs.Stretches.{Event, Picks, Ticks, Becomes, picked, ticked}
use Rattle.eevdf_dozes.specs.Stretches.{Watch, NoneIsPastDue, IsWatched, IsStretch, BeginsWithPick}
use Rattle.eevdf_dozes.specs.Calls.{Touches, DozesIfItCounts}

-- a call; the last kind touches one task alone, and is told by what the queue is afterwards
pub data Call : Type 0 where
  Pick : Call
  Tick : ℕ → Call
  Doze : ℕ → Call
  Wake : ℕ → Call
  Yield : Call
  SetSlice : ℕ → ℕ → Call
  Stop : Call
  Rebase : Call
  Touch : ℕ → State → Call

-- the queue after it
abbrev pub after_call : State → Call → State
after_call q Pick = picked q
after_call q (Tick ns) = ticked q ns
after_call q (Doze task) = doze q task
after_call q (Wake task) = (wake q task).1
after_call q Yield = (yield_now q).1
after_call q (SetSlice task slice) = set_slice q task slice
after_call q Stop = nobody_runs q
after_call q Rebase = (rebase q).1
after_call q (Touch task r) = r

-- the event that it is
abbrev pub event_of : State → Call → Event
event_of q Pick = Picks
event_of q (Tick ns) = Ticks ns
event_of q call = Becomes (after_call q call)

abbrev pub events_of : State → List Call → List Event
events_of q [] = []
events_of q (call ∷ calls) = event_of q call ∷ events_of (after_call q call) calls

-- how long the queue has run since its last pick
abbrev pub run_after : ℕ → Call → ℕ
run_after ran Pick = 0
run_after ran (Tick ns) = ran + ns
run_after ran call = ran

-- the task that stays neither dozes nor wakes, and what else touches one task alone touches one that doesn't count; a turn isn't too long
abbrev pub IsAllowed : Watch → ℕ → State → Call → Type 0
IsAllowed w ran q (Tick ns) = ran + ns ≤ w.turn
IsAllowed w ran q (Doze task) = task ≡ w.stays → ⊥
IsAllowed w ran q (Wake task) = task ≡ w.stays → ⊥
IsAllowed w ran q (Touch task r) = (w.counts task ≡ false) × ((task ≡ w.stays → ⊥) × Touches task q r)
IsAllowed w ran q call = Unit {0}

abbrev pub AreAllowed : Watch → ℕ → State → List Call → Type 0
AreAllowed w ran q [] = Unit {0}
AreAllowed w ran q (call ∷ calls) = IsAllowed w ran q call × AreAllowed w (run_after ran call) (after_call q call) calls

-- the tasks that count and sleep doze
abbrev pub SleepersDoze : Watch → State → Type 0
SleepersDoze w q = (t : ℕ) → DozesIfItCounts w q t

-- all runnable tasks count, before each of the calls
abbrev pub AllCountAlong : Watch → State → List Call → Type 0
AllCountAlong w q [] = Unit {0}
AllCountAlong w q (call ∷ calls) = AllCount w q.runnable × AllCountAlong w (after_call q call) calls

pub record AreStretch (w : Watch) (ran : ℕ) (q : State) (calls : List Call) : Type 0 where
  pub stretch : IsStretch w ran q (events_of q calls)
  pub none_past : AllCountAlong w q calls → NoneIsPutPast w q (events_of q calls)

-- where the tasks that count and sleep at first doze, such calls are a stretch; and while all runnable tasks count, they put none past
-- where one stood
abbrev pub CallsAreStretch : Type 0
CallsAreStretch =
    (w : Watch) (ran : ℕ) (q : State) (calls : List Call) → IsWatched w q → SleepersDoze w q → AreAllowed w ran q calls
    → AreStretch w ran q calls

-- so after a pick they are what the laws of stretches ask
pub record BeginWithPick (w : Watch) (q : State) (calls : List Call) : Type 0 where
  pub begins : BeginsWithPick w q (events_of (picked q) calls)
  pub none_past : AllCount w q.runnable → AllCountAlong w (picked q) calls → NoneIsPutPast w (picked q) (events_of (picked q) calls)

abbrev pub CallsBeginWithPick : Type 0
CallsBeginWithPick =
    (w : Watch) (q : State) (calls : List Call) → IsWatched w q → SleepersDoze w q → AreAllowed w 0 (picked q) calls
    → BeginWithPick w q calls

-- ---- whatever is called, of whichever tasks
abbrev pub after_calls : State → List Call → State
after_calls q [] = q
after_calls q (call ∷ calls) = after_calls (after_call q call) calls

-- what is told to touch one task alone does so
abbrev pub AreCalls : State → List Call → Type 0
AreCalls q [] = Unit {0}
AreCalls q (Touch task r ∷ calls) = Touches task q r × AreCalls r calls
AreCalls q (call ∷ calls) = AreCalls (after_call q call) calls

-- no runnable task is ever past its own deadline where none was at first, as in an empty queue
abbrev pub NoneIsEverPastDue : Type 0
NoneIsEverPastDue =
    (q : State) (calls : List Call) → AreCalls q calls → NoneIsPastDue q.runnable
    → NoneIsPastDue (after_calls q calls).runnable
