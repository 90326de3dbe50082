-- How far a task can be from its share after turns that are no longer than some nanoseconds.
use Rattle.std.specs.Prelude.{◌≡◌, ℕ, ◌+◌, ◌-◌, ◌*◌, ℤ, pos, ◌+ℤ◌, ◌*ℤ◌, ◌≤ℤ◌, List, Some}
use Rattle.std.specs.FinMap as map
use Rattle.eevdf_weight.specs.{Weight.weight_of, Charge.charge_of}
use Rattle.eevdf_queue.specs.{declared.entry.Entry.Entry, State.State, Moves.request_of}
use Rattle.eevdf_queue.specs.Sums.{Tasks, total_weight, total_moment}
use Rattle.eevdf_fairness.specs.Turns.{Turn, AreNoLonger, IsFresh, after_turns}

-- Let `n` be the number of tasks, `W` the sum of their weights, `S` the sum of weight times virtual runtime, and `V = S / W` the
-- exact virtual time; of a task let `w` be the weight, `v` the virtual runtime, `d` the deadline and `c` the charge of its slice.
-- Both sides of a clause about `V` are times `W`, so nothing is rounded.

-- what the other tasks' turns come to, each of so many nanoseconds, in weight times virtual time
abbrev pub turns_of_others : ℕ → Tasks → ℕ
turns_of_others ns tasks = (map.len tasks - 1) * (1024 * ns)

-- the weight of the other tasks
abbrev pub weight_of_others : Tasks → Entry → ℕ
weight_of_others tasks e = total_weight tasks - weight_of e.nice

-- no task is past a time by more than the charge of a turn
abbrev pub NoneIsFarPast : ℕ → Tasks → ℤ → Type 0
NoneIsFarPast ns tasks time =
    (u : ℕ) (f : Entry) → map.get tasks u ≡ Some f → f.v ≤ℤ (time +ℤ pos (charge_of ns (weight_of f.nice)))

-- a request that is due at this time isn't late: `V - d` is at most `(n - 1) * 1024 * ns / W`
abbrev pub IsNotLate : ℕ → Tasks → ℤ → Type 0
IsNotLate ns tasks time =
    total_moment tasks ≤ℤ ((time *ℤ pos (total_weight tasks)) +ℤ pos (turns_of_others ns tasks))

-- such a request is the less late, the more is left of it: `W * (V - d) + w * (d - v)` is at most `(n - 1) * 1024 * ns`
abbrev pub IsNotLateWithRest : ℕ → Tasks → ℤ → Entry → Type 0
IsNotLateWithRest ns tasks time e =
    (total_moment tasks +ℤ (time *ℤ pos (weight_of e.nice)))
    ≤ℤ (((time *ℤ pos (total_weight tasks)) +ℤ (e.v *ℤ pos (weight_of e.nice))) +ℤ pos (turns_of_others ns tasks))

-- the task isn't behind: `V - v` is at most `(1 - w / W) * c + (n - 1) * 1024 * ns / W`
abbrev pub IsNotBehind : ℕ → Tasks → Entry → Type 0
IsNotBehind ns tasks e =
    total_moment tasks
    ≤ℤ ((e.v *ℤ pos (total_weight tasks)) +ℤ pos (weight_of_others tasks e * request_of e.nice e.slice + turns_of_others ns tasks))

-- nor is it owed more than turns of the others: `w * (V - v)` is at most `(n - 1) * 1024 * ns`, less `(1 - w / W) * 1024 * ns`
abbrev pub IsOwedOnlyTurns : ℕ → Tasks → Entry → Type 0
IsOwedOnlyTurns ns tasks e =
    ((total_moment tasks *ℤ pos (weight_of e.nice)) +ℤ pos (weight_of_others tasks e * (1024 * ns)))
    ≤ℤ (((e.v *ℤ pos (total_weight tasks)) *ℤ pos (weight_of e.nice)) +ℤ pos (total_weight tasks * turns_of_others ns tasks))

-- the task isn't ahead: `v - V` is at most `1 - w / W` times the charge of a turn
abbrev pub IsNotAhead : ℕ → Tasks → Entry → Type 0
IsNotAhead ns tasks e =
    (e.v *ℤ pos (total_weight tasks)) ≤ℤ (total_moment tasks +ℤ pos (weight_of_others tasks e * charge_of ns (weight_of e.nice)))

pub record IsFair (ns : ℕ) (tasks : Tasks) (e : Entry) : Type 0 where
  pub past : NoneIsFarPast ns tasks e.d
  pub late : IsNotLate ns tasks e.d
  pub rest : IsNotLateWithRest ns tasks e.d e
  pub behind : IsNotBehind ns tasks e
  pub owed : IsOwedOnlyTurns ns tasks e
  pub ahead : IsNotAhead ns tasks e

abbrev pub AllAreFair : ℕ → Tasks → Type 0
AllAreFair ns tasks = (t : ℕ) (e : Entry) → map.get tasks t ≡ Some e → IsFair ns tasks e

-- from a fresh start, after any list of turns none of which is longer, each task is fair
abbrev pub TurnsAreFair : Type 0
TurnsAreFair =
    (q : State) (v : ℤ) (ns : ℕ) (turns : List Turn) → IsFresh v q.runnable → AreNoLonger ns turns
    → AllAreFair ns (after_turns q turns).runnable
