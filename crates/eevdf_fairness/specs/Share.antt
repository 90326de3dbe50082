-- How far the time that a task ran can be from its share of the time that the CPU ran.
use Rattle.std.specs.Prelude.{◌≡◌, ℕ, ◌+◌, ◌-◌, ◌*◌, ◌≤◌, ◌==◌, if◌then◌else◌, min, ℤ, List, Some}
use Rattle.std.specs.FinMap as map
use Rattle.eevdf_weight.specs.{Weight.weight_of, Charge.charge_of}
use Rattle.eevdf_queue.specs.{declared.entry.Entry.Entry, State.State, Moves.request_of, Sums.Tasks, Sums.total_weight}
use Rattle.eevdf_fairness.specs.Turns.{Turn, AreNoLonger, HaveNoShorterTicks, IsFresh, after_turns}
use Rattle.eevdf_fairness.specs.Fair.{turns_of_others, weight_of_others}
use Rattle.eevdf_fairness.specs.Tallies.{cpu_time, cpu_charges, cpu_rounding, task_time, task_charges, task_rounding}

-- How far a task can be off its share over a stretch of turns: what it can have been behind at one end and ahead at the other, times its
-- weight and that of all. In time that is `swing / (1024 * W)`, and so no more than the turns of the others.
abbrev pub swing : ℕ → Tasks → Entry → ℕ
swing ns tasks e =
    min
    (weight_of e.nice
    * (weight_of_others tasks e * (request_of e.nice e.slice + charge_of ns (weight_of e.nice)) + turns_of_others ns tasks))
    (total_weight tasks * turns_of_others ns tasks)

-- the most that rounding takes from a charge of this weight, in weight times virtual time: less than the weight, and nothing at nice 0
abbrev pub most_lost : ℕ → ℕ
most_lost w = if w == 1024 then 0 else w - 1

abbrev pub NoneLosesMore : ℕ → Tasks → Type 0
NoneLosesMore most tasks = (t : ℕ) (e : Entry) → map.get tasks t ≡ Some e → most_lost (weight_of e.nice) ≤ most

-- Let `T` be the time that the CPU ran and `R` what rounding took from all charges; of a task let `s` be the time that it ran and `r`
-- what rounding took from its charges, and let `w` and `W` be its weight and that of all. What it was charged for, `1024 * s - r`, is
-- its share of what all were charged for, `1024 * T - R`, but for the swing.
pub record IsShare (w W swing T R s r : ℕ) : Type 0 where
  pub at_most : W * (1024 * s) + w * R ≤ w * (1024 * T) + W * r + swing
  pub at_least : w * (1024 * T) + W * r ≤ W * (1024 * s) + w * R + swing

-- The same in time alone, where no tick is shorter than `m` nanoseconds: for each `m` of its time rounding takes at most what a charge of
-- the task can lose, and for each `m` of all the most that one of any task can.
pub record IsShareOfTime (w W swing m most T s : ℕ) : Type 0 where
  pub at_most : W * (1024 * m * s) ≤ w * (1024 * m * T) + W * (most_lost w * s) + m * swing
  pub at_least : w * (1024 * m * T) ≤ W * (1024 * m * s) + w * (most * T) + m * swing

-- The same by how many charges there were, however short the ticks: from each rounding takes at most so much.
pub record IsShareByCharges (w W swing most all own T s : ℕ) : Type 0 where
  pub at_most : W * (1024 * s) ≤ w * (1024 * T) + W * (most_lost w * own) + swing
  pub at_least : w * (1024 * T) ≤ W * (1024 * s) + w * (most * all) + swing

-- over turns that begin at the queue `q`, of a task with the entry `e` there
pub record HasItsShare (ns : ℕ) (q : State) (turns : List Turn) (t : ℕ) (e : Entry) : Type 0 where
  pub share : IsShare (weight_of e.nice) (total_weight q.runnable) (swing ns q.runnable e)
      (cpu_time q turns) (cpu_rounding q turns) (task_time t q turns) (task_rounding t q turns)
  pub task_rounded : task_rounding t q turns ≤ most_lost (weight_of e.nice) * task_charges t q turns
  pub cpu_rounded : (most : ℕ) → NoneLosesMore most q.runnable → cpu_rounding q turns ≤ most * cpu_charges q turns
  pub in_time : (least most : ℕ) → HaveNoShorterTicks least turns → NoneLosesMore most q.runnable
      → IsShareOfTime (weight_of e.nice) (total_weight q.runnable) (swing ns q.runnable e) least most
      (cpu_time q turns) (task_time t q turns)
  pub by_charges : (most : ℕ) → NoneLosesMore most q.runnable
      → IsShareByCharges (weight_of e.nice) (total_weight q.runnable) (swing ns q.runnable e) most
      (cpu_charges q turns) (task_charges t q turns) (cpu_time q turns) (task_time t q turns)
  -- so it doesn't wait for long: while it doesn't run at all the CPU runs for no more than this
  pub waits : (least most : ℕ) → HaveNoShorterTicks least turns → NoneLosesMore most q.runnable → task_time t q turns ≡ 0
      → weight_of e.nice * (1024 * least * cpu_time q turns)
      ≤ weight_of e.nice * (most * cpu_time q turns) + least * swing ns q.runnable e
  pub waits_by_charges : (most : ℕ) → NoneLosesMore most q.runnable → task_time t q turns ≡ 0
      → weight_of e.nice * (1024 * cpu_time q turns) ≤ weight_of e.nice * (most * cpu_charges q turns) + swing ns q.runnable e

-- over any stretch of turns after a fresh start, none of them longer, each task has its share
abbrev pub TurnsGiveShares : Type 0
TurnsGiveShares =
    (q : State) (v : ℤ) (ns : ℕ) (before turns : List Turn) → IsFresh v q.runnable → AreNoLonger ns before → AreNoLonger ns turns
    → (t : ℕ) (e : Entry) → map.get (after_turns q before).runnable t ≡ Some e → HasItsShare ns (after_turns q before) turns t e
