-- What a task that joins others does to them.
use Rattle.std.specs.Prelude.{◌≡◌, ℕ, ◌+◌, ◌-◌, ◌*◌, ◌/◌, ◌≤◌, true, ℤ, pos, ◌+ℤ◌, ◌-ℤ◌, ◌*ℤ◌, ◌≤ℤ◌, List, Some, None}
use Rattle.std.specs.FinMap.{get}
use Rattle.eevdf_weight.specs.{Weight.weight_of, Charge.lag_limit_of}
use Rattle.eevdf_queue.specs.{declared.entry.Entry.Entry, State.State, declared.sleeper.Sleeper.Sleeper, Lag.is_lag, Placing.put, Moves.request_of}
use Rattle.eevdf_queue.specs.Sums.{Tasks, total_weight, total_moment}
use Rattle.eevdf_fairness.specs.{Anywhere.NoneIsPast, Anywhere.HasPassedFront, Healing.HasNotYielded}
use Rattle.eevdf_fairness.specs.{Turns.IsFresh, Fair.turns_of_others, Leavings.Step, Leavings.HaveNoLongerTurns, Leavings.after_steps, Leavings.lowered_by}

-- a task joins others with a lag within its limit, as by a wake, a pull or a renice, and `r` has the runnable tasks that there are then
pub record Joins (q : State) (task : ℕ) (s : Sleeper) (r : State) : Type 0 where
  pub some : 1 ≤ total_weight q.runnable
  pub absent : get q.runnable task ≡ None
  pub limited : is_lag s.lag s.nice s.slice ≡ true
  pub placed : State
  pub is_put : put q task s ≡ Some placed
  pub runnable : r.runnable ≡ placed.runnable

abbrev pub lag_limit : Sleeper → ℕ
lag_limit s = lag_limit_of s.slice (weight_of s.nice)

-- Let `W` and `V` be the weight and the virtual time of the others before, and `w` and `L` the task's weight and lag limit. It joins past
-- `V` by at most `L * (W + w) / W` and one. From the virtual time of all with it, it is then at most `L` and one away, either way.
pub record IsNear (q : State) (s : Sleeper) (r : State) (e : Entry) : Type 0 where
  pub near : (e.v *ℤ pos (total_weight q.runnable))
      ≤ℤ (total_moment q.runnable +ℤ pos (lag_limit s * (total_weight q.runnable + weight_of s.nice) + total_weight q.runnable))
  pub ahead : (e.v *ℤ pos (total_weight r.runnable))
      ≤ℤ (total_moment r.runnable +ℤ pos (lag_limit s * total_weight r.runnable + total_weight q.runnable))
  pub behind : total_moment r.runnable
      ≤ℤ ((e.v *ℤ pos (total_weight r.runnable)) +ℤ pos (lag_limit s * total_weight r.runnable + total_weight q.runnable))

abbrev pub JoinIsNear : Type 0
JoinIsNear =
    (q r : State) (task : ℕ) (s : Sleeper) (e : Entry) → Joins q task s r → get r.runnable task ≡ Some e → IsNear q s r e

-- Where `W * (V - time)` was at most `late`, `W * (V' - time)` is at most `late + w * L + w * W / (W + w)`, with the virtual time `V'`
-- after the join and the `W` of before.
abbrev pub IsLittleLater : State → Sleeper → State → ℤ → ℕ → Type 0
IsLittleLater q s r time late =
    (total_moment r.runnable *ℤ pos (total_weight q.runnable))
    ≤ℤ (((time *ℤ pos (total_weight r.runnable)) *ℤ pos (total_weight q.runnable))
    +ℤ pos ((late + weight_of s.nice * lag_limit s) * total_weight r.runnable + weight_of s.nice * total_weight q.runnable))

abbrev pub JoinIsLittleLater : Type 0
JoinIsLittleLater =
    (q r : State) (task : ℕ) (s : Sleeper) (time : ℤ) (late : ℕ) → Joins q task s r
    → total_moment q.runnable ≤ℤ ((time *ℤ pos (total_weight q.runnable)) +ℤ pos late) → IsLittleLater q s r time late

-- how far past the deadline of a request a task can join, where none is late by more than the others' turns
abbrev pub reach : ℕ → Tasks → Sleeper → ℕ
reach ns tasks s =
    (turns_of_others ns tasks + lag_limit s * (total_weight tasks + weight_of s.nice)) / total_weight tasks + 1

-- how late a request of the others can be after it: by the others' turns, and what the weight of the task that joined times its reach is
-- more than a turn
abbrev pub most_late : ℕ → Tasks → Sleeper → Tasks → ℕ
most_late ns before s tasks = turns_of_others ns tasks + (weight_of s.nice * reach ns before s - 1024 * ns)

abbrev pub IsNotLateAfterJoin : ℕ → Tasks → Sleeper → Tasks → Entry → Type 0
IsNotLateAfterJoin ns before s tasks e =
    total_moment tasks ≤ℤ ((e.d *ℤ pos (total_weight tasks)) +ℤ pos (most_late ns before s tasks))

-- its task is behind by at most its slice more
abbrev pub IsNotBehindAfterJoin : ℕ → Tasks → Sleeper → Tasks → Entry → Type 0
IsNotBehindAfterJoin ns before s tasks e =
    total_moment tasks
    ≤ℤ ((e.v *ℤ pos (total_weight tasks)) +ℤ pos (total_weight tasks * request_of e.nice e.slice + most_late ns before s tasks))

pub record IsFairAfterJoin (ns : ℕ) (before : Tasks) (s : Sleeper) (tasks : Tasks) (e : Entry) : Type 0 where
  pub late : IsNotLateAfterJoin ns before s tasks e
  pub behind : IsNotBehindAfterJoin ns before s tasks e

-- the same where a yield may have made a request longer
pub record IsPunctualAfterJoin (ns : ℕ) (before : Tasks) (s : Sleeper) (tasks : Tasks) (e : Entry) : Type 0 where
  pub late : IsNotLateAfterJoin ns before s tasks e
  pub behind : HasNotYielded e → IsNotBehindAfterJoin ns before s tasks e

-- After a fresh start, turns, leavings and rebases a task joins a queue `m` with the runnable tasks that there are then. After any turns,
-- leavings and rebases more no request of the others is later, and none of the others is further behind.
abbrev pub JoinKeepsFair : Type 0
JoinKeepsFair =
    (q m r : State) (v : ℤ) (ns : ℕ) (before steps : List Step) (task : ℕ) (s : Sleeper) → IsFresh v q.runnable
    → HaveNoLongerTurns ns before → HaveNoLongerTurns ns steps → m.runnable ≡ (after_steps q before).runnable → Joins m task s r
    → (t : ℕ) (e : Entry) → (t ≡ task → ⊥) → get (after_steps r steps).runnable t ≡ Some e
    → IsFairAfterJoin ns m.runnable s (after_steps r steps).runnable e

-- and so it is after any state, turns and leavings, once the virtual time has passed a front and before the next join
abbrev pub HealedJoinKeepsFair : Type 0
HealedJoinKeepsFair =
    (q m r : State) (front : ℤ) (ns : ℕ) (before more steps : List Step) (task : ℕ) (s : Sleeper) → NoneIsPast front q.runnable
    → HaveNoLongerTurns ns before → HaveNoLongerTurns ns more → HaveNoLongerTurns ns steps
    → HasPassedFront (front -ℤ lowered_by q before) ns (after_steps q before).runnable → m.runnable ≡ (after_steps (after_steps q before) more).runnable
    → Joins m task s r → (t : ℕ) (e : Entry) → (t ≡ task → ⊥) → get (after_steps r steps).runnable t ≡ Some e
    → IsPunctualAfterJoin ns m.runnable s (after_steps r steps).runnable e
