-- What turns come to from any state of a queue, whatever was done to it before.
use Rattle.std.specs.Prelude.{◌≡◌, ℕ, ℤ, pos, ◌+ℤ◌, ◌-ℤ◌, ◌*ℤ◌, ◌≤ℤ◌, ◌<ℤ◌, List, Some}
use Rattle.std.specs.{Int.int_max, FinMap.get}
use Rattle.eevdf_queue.specs.{declared.entry.Entry.Entry, State.State}
use Rattle.eevdf_queue.specs.Sums.{Tasks, total_weight, total_moment}
use Rattle.eevdf_fairness.specs.Turns.{AreNoLonger, Turn, after_turns}
use Rattle.eevdf_fairness.specs.Fair.{NoneIsFarPast, IsNotLate, IsNotLateWithRest, IsNotAhead, turns_of_others}
use Rattle.eevdf_fairness.specs.Leavings.{Step, HaveNoLongerTurns, after_steps, lowered_by}

-- no virtual runtime is past the front
abbrev pub NoneIsPast : ℤ → Tasks → Type 0
NoneIsPast front tasks = (t : ℕ) (e : Entry) → get tasks t ≡ Some e → e.v ≤ℤ front

-- the virtual time is past the front by more than the others' turns
abbrev pub HasPassedFront : ℤ → ℕ → Tasks → Type 0
HasPassedFront front ns tasks =
    ((front *ℤ pos (total_weight tasks)) +ℤ pos (turns_of_others ns tasks)) <ℤ total_moment tasks

-- no request is late, counted from the front where the deadline lies before that
pub record IsStillFairPast (front : ℤ) (ns : ℕ) (tasks : Tasks) (e : Entry) : Type 0 where
  pub past : NoneIsFarPast ns tasks (int_max e.d front)
  pub late : IsNotLate ns tasks (int_max e.d front)
  pub rest : IsNotLateWithRest ns tasks (int_max e.d front) e
  -- once the virtual time has passed the front so is every deadline past it, and none is counted from it any more
  pub healed : HasPassedFront front ns tasks → front <ℤ e.d

-- nor is a task ahead that is past the front
pub record IsFairPast (front : ℤ) (ns : ℕ) (tasks : Tasks) (e : Entry) : Type 0 where
  pub still : IsStillFairPast front ns tasks e
  pub ahead : front <ℤ e.v → IsNotAhead ns tasks e

abbrev pub AllAreFairPast : ℤ → ℕ → Tasks → Type 0
AllAreFairPast front ns tasks = (t : ℕ) (e : Entry) → get tasks t ≡ Some e → IsFairPast front ns tasks e

-- from any state, with any front that no virtual runtime is past in it, after any list of turns none of which is longer
abbrev pub TurnsAreFairAnywhere : Type 0
TurnsAreFairAnywhere =
    (q : State) (front : ℤ) (ns : ℕ) (turns : List Turn) → NoneIsPast front q.runnable → AreNoLonger ns turns
    → AllAreFairPast front ns (after_turns q turns).runnable

-- and so it is where tasks leave between the turns, but for who is ahead; a rebase lowers the front as well
abbrev pub LeavingsKeepFairAnywhere : Type 0
LeavingsKeepFairAnywhere =
    (q : State) (front : ℤ) (ns : ℕ) (steps : List Step) → NoneIsPast front q.runnable → HaveNoLongerTurns ns steps
    → (t : ℕ) (e : Entry) → get (after_steps q steps).runnable t ≡ Some e → IsStillFairPast (front -ℤ lowered_by q steps) ns (after_steps q steps).runnable e
