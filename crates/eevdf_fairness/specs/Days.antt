-- Days of turns, each ended by a rebase.
use Rattle.std.specs.Prelude.{◌≡◌, ℕ, ◌+◌, ◌^◌, ◌≤◌, true, ℤ, unsigned_abs, List, [], ◌∷◌, length, Some}
use Rattle.std.specs.{List.AllByRecursion}
use Rattle.std.specs.FinMap as map
use Rattle.eevdf_weight.specs.Limits.{is_in_range}
use Rattle.eevdf_queue.specs.{declared.entry.Entry.Entry, State.State, Tick.tick, Rebase.rebase, Rebase.can_rebase}
use Rattle.eevdf_queue.specs.declared.answers.TickAnswer.TheVariants.{Range}
use Rattle.eevdf_fairness.specs.Turns.{Turn, turn_length, AreNoLonger, IsFresh, after_turns}

-- how many nanoseconds turns run in all
abbrev pub total_length : List Turn → ℕ
total_length [] = 0
total_length (turn ∷ turns) = turn_length turn + total_length turns

-- turns of at most a second each, a day of 86400 seconds in all
pub record IsDay (turns : List Turn) : Type 0 where
  pub brief : AreNoLonger 1000000000 turns
  pub whole : total_length turns ≤ 86400000000000

-- and no more of them than a shift has room for
pub record AreDays (days : List (List Turn)) : Type 0 where
  pub each : AllByRecursion IsDay days
  pub few : length days ≤ 2 ^ 58

-- the queue after days, each of which ends with a rebase
abbrev pub after_days : State → List (List Turn) → State
after_days q [] = q
after_days q (day ∷ days) = after_days ((rebase (after_turns q day)).1) days

-- a fresh start within 2^58 of the time 0, of at most 1024 tasks of whatever nice levels, with slices of at most 100 ms; the time that
-- stands is in range, as in every queue, and half of what a shift may be is left
pub record IsNearStart (v : ℤ) (q : State) : Type 0 where
  pub fresh : IsFresh v q.runnable
  pub near : unsigned_abs v ≤ 2 ^ 58
  pub few : map.len q.runnable ≤ 1024
  pub slices : (t : ℕ) (e : Entry) → map.get q.runnable t ≡ Some e → e.slice ≤ 100000000
  pub based : is_in_range q.base ≡ true
  pub shift : unsigned_abs q.shift ≤ 2 ^ 119

-- no tick of at most a second is refused, and the virtual time can be made 0
pub record IsFarFromRange (q : State) : Type 0 where
  pub ticks : (ns : ℕ) → ns ≤ 1000000000 → (tick q ns).0 ≡ Range → ⊥
  pub rebases : can_rebase q ≡ true

-- so it is at any time of any day
abbrev pub DaysStayInRange : Type 0
DaysStayInRange =
    (q : State) (v : ℤ) (days : List (List Turn)) (turns : List Turn) → IsNearStart v q → AreDays days → IsDay turns
    → IsFarFromRange (after_turns (after_days q days) turns)
