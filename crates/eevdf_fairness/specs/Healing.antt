-- How long a queue remembers the state that it was in.
use Rattle.std.specs.Prelude.{◌≡◌, ℕ, ◌+◌, ◌*◌, ℤ, pos, ◌+ℤ◌, ◌-ℤ◌, ◌*ℤ◌, ◌≤ℤ◌, ◌<ℤ◌, List, Some}
use Rattle.std.specs.FinMap.{get}
use Rattle.eevdf_queue.specs.{declared.entry.Entry.Entry, State.State, Moves.request_of}
use Rattle.eevdf_queue.specs.Sums.{Tasks, total_weight, total_moment}
use Rattle.eevdf_fairness.specs.{Turns.Turn, Turns.AreNoLonger, Turns.after_turns, Fair.turns_of_others}
use Rattle.eevdf_fairness.specs.Fair.{NoneIsFarPast, IsNotLate, IsNotLateWithRest, IsNotBehind, IsOwedOnlyTurns, IsNotAhead}
use Rattle.eevdf_fairness.specs.Leavings.{Step, HaveNoLongerTurns, after_steps, lowered_by}
use Rattle.eevdf_fairness.specs.{Anywhere.NoneIsPast, Anywhere.HasPassedFront, Tallies.cpu_time, Tallies.cpu_rounding, Share.HasItsShare}

-- what is left of the request is no more than the task's slice, as it is unless a yield has made it longer
abbrev pub HasNotYielded : Entry → Type 0
HasNotYielded e = e.d ≤ℤ (e.v +ℤ pos (request_of e.nice e.slice))

-- the request is as punctual as from a fresh start, and so the task isn't behind
pub record IsPunctual (ns : ℕ) (tasks : Tasks) (e : Entry) : Type 0 where
  pub past : NoneIsFarPast ns tasks e.d
  pub late : IsNotLate ns tasks e.d
  pub rest : IsNotLateWithRest ns tasks e.d e
  pub behind : HasNotYielded e → IsNotBehind ns tasks e

-- and the task is neither ahead nor owed more than from a fresh start
pub record HasHealed (ns : ℕ) (tasks : Tasks) (e : Entry) : Type 0 where
  pub punctual : IsPunctual ns tasks e
  pub owed : IsOwedOnlyTurns ns tasks e
  pub ahead : IsNotAhead ns tasks e

-- the CPU has been charged for more than the weight of all times the way from the virtual time to the front, and the others' turns
abbrev pub HasCaughtUp : ℤ → ℕ → State → List Turn → Type 0
HasCaughtUp front ns q turns =
    ((front *ℤ pos (total_weight q.runnable)) +ℤ pos (turns_of_others ns q.runnable + cpu_rounding q turns))
    <ℤ (total_moment q.runnable +ℤ pos (1024 * cpu_time q turns))

-- then every task has healed, whatever state the turns began in
abbrev pub TurnsHeal : Type 0
TurnsHeal =
    (q : State) (front : ℤ) (ns : ℕ) (turns : List Turn) → NoneIsPast front q.runnable → AreNoLonger ns turns → HasCaughtUp front ns q turns
    → (t : ℕ) (e : Entry) → get (after_turns q turns).runnable t ≡ Some e → HasHealed ns (after_turns q turns).runnable e

-- and over any stretch of turns from then on each task has its share, where no request was longer than a slice at first
abbrev pub HealedTurnsGiveShares : Type 0
HealedTurnsGiveShares =
    (q : State) (front : ℤ) (ns : ℕ) (before turns : List Turn) → NoneIsPast front q.runnable
    → ((t : ℕ) (e : Entry) → get q.runnable t ≡ Some e → HasNotYielded e) → AreNoLonger ns before → AreNoLonger ns turns
    → HasCaughtUp front ns q before
    → (t : ℕ) (e : Entry) → get (after_turns q before).runnable t ≡ Some e → HasItsShare ns (after_turns q before) turns t e

-- where tasks leave between turns, every request is punctual from the moment on in which the virtual time has passed the front, which a
-- rebase lowers
abbrev pub LeavingsHeal : Type 0
LeavingsHeal =
    (q : State) (front : ℤ) (ns : ℕ) (before steps : List Step) → NoneIsPast front q.runnable
    → HaveNoLongerTurns ns before → HaveNoLongerTurns ns steps → HasPassedFront (front -ℤ lowered_by q before) ns (after_steps q before).runnable
    → (t : ℕ) (e : Entry) → get (after_steps (after_steps q before) steps).runnable t ≡ Some e
    → IsPunctual ns (after_steps (after_steps q before) steps).runnable e
