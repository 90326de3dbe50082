-- The shares of one CPU's tasks, by the time that the lines of a history tell.
use Rattle.std.specs.Prelude.{◌≡◌, ℕ, ◌+◌, ◌<◌, ◌==◌, if◌then◌else◌, ℤ, List, [], ◌∷◌, length, Some}
use Rattle.std.specs.FinMap.{get}
use Rattle.eevdf_weight.specs.Weight.{weight_of}
use Rattle.eevdf_queue.specs.{declared.entry.Entry.Entry, State.State, Sums.total_weight}
use Rattle.eevdf_ops.specs.{declared.deeds.Deed.Deed, declared.deeds.Deed.TheVariants.Tick, declared.deeds.Line.Line}
use Rattle.eevdf_ops.specs.{declared.deeds.Answer.Answer, declared.deeds.Answer.TheVariants.Charged}
use Rattle.eevdf_ops.specs.{Machine.Machine, Machine.queue_at, Whole.lines_of, Whole.machine_after}
use Rattle.eevdf_fairness.specs.Turns.{Turn, AreNoLonger, HaveNoShorterTicks, IsFresh}
use Rattle.eevdf_fairness.specs.Share.{swing, NoneLosesMore, IsShareOfTime, HasItsShare}
use Rattle.eevdf_fairness.specs.{Tallies.cpu_time, Tallies.task_time, OneCpu.OnlyTurnsTouch}

-- the nanoseconds of a tick of this CPU, and none of any other deed
abbrev pub ticked_on : ℕ → Deed → ℕ
ticked_on cpu (Tick at ns) = if at == cpu then ns else 0
ticked_on cpu deed = 0

-- so many nanoseconds where the answer is that a task was charged
abbrev pub charged : Answer → ℕ → ℕ
charged (Charged task resched) ns = ns
charged answer ns = 0

-- the same where that is this task
abbrev pub charged_to : ℕ → Answer → ℕ → ℕ
charged_to t (Charged task resched) ns = if task == t then ns else 0
charged_to t answer ns = 0

-- the sum over the lines of a CPU's ticks
abbrev pub over_lines : (Answer → ℕ → ℕ) → ℕ → List Line → ℕ
over_lines f cpu [] = 0
over_lines f cpu (line ∷ lines) = f line.answer (ticked_on cpu line.deed) + over_lines f cpu lines

-- the nanoseconds that a CPU ran, and that a task ran on it
abbrev pub time_on : ℕ → List Line → ℕ
time_on = over_lines charged

abbrev pub time_of : ℕ → ℕ → List Line → ℕ
time_of t = over_lines (charged_to t)

-- the lines of a CPU's turns tell the time of these turns
pub record TellTime (cpu : ℕ) (lines : List Line) (q : State) (turns : List Turn) : Type 0 where
  pub of_all : time_on cpu lines ≡ cpu_time q turns
  pub of_each : (t : ℕ) → time_of t cpu lines ≡ task_time t q turns

-- deeds of all CPUs, of which those that touch this CPU's queue are its turns
abbrev pub LinesTellTime : Type 0
LinesTellTime =
    (homes : List ℕ) (m : Machine) (cpu : ℕ) (deeds : List Deed) (turns : List Turn) → cpu < length m → OnlyTurnsTouch homes cpu deeds turns
    → TellTime cpu (lines_of homes m deeds) (queue_at m cpu) turns

-- a task's share of the time that the lines tell
pub record HasItsShareOfLines (ns cpu : ℕ) (lines : List Line) (q : State) (turns : List Turn) (t : ℕ) (e : Entry) : Type 0 where
  pub share : HasItsShare ns q turns t e
  pub told : TellTime cpu lines q turns
  pub in_time : (least most : ℕ) → HaveNoShorterTicks least turns → NoneLosesMore most q.runnable
      → IsShareOfTime (weight_of e.nice) (total_weight q.runnable) (swing ns q.runnable e) least most
      (time_on cpu lines) (time_of t cpu lines)

-- after a fresh start of a CPU's queue, over any stretch of a history in which nothing but its turns touches it
abbrev pub OneCpuGivesShares : Type 0
OneCpuGivesShares =
    (homes : List ℕ) (m : Machine) (cpu : ℕ) (earlier deeds : List Deed) (v : ℤ) (ns : ℕ) (before turns : List Turn) → cpu < length m
    → OnlyTurnsTouch homes cpu earlier before → OnlyTurnsTouch homes cpu deeds turns → IsFresh v (queue_at m cpu).runnable
    → AreNoLonger ns before → AreNoLonger ns turns
    → (t : ℕ) (e : Entry) → get (queue_at (machine_after homes m earlier) cpu).runnable t ≡ Some e
    → HasItsShareOfLines ns cpu (lines_of homes (machine_after homes m earlier) deeds)
    (queue_at (machine_after homes m earlier) cpu) turns t e
