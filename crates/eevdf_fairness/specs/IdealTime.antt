-- What a task of a balanced machine has of its ideal share, of the time that the lines of a history tell.
use Rattle.std.specs.Prelude.{◌≡◌, ℕ, ◌+◌, ◌*◌, ◌<◌, ◌≤◌, ℤ, List, length, Some}
use Rattle.std.specs.FinMap.{get}
use Rattle.eevdf_weight.specs.Weight.{weight_of}
use Rattle.eevdf_queue.specs.{declared.entry.Entry.Entry, Sums.total_weight}
use Rattle.eevdf_ops.specs.{declared.deeds.Deed.Deed, Machine.Machine, Machine.queue_at, Whole.lines_of, Whole.machine_after}
use Rattle.eevdf_balance.specs.{FailedPulls.effective, HalfShare.ideal, HalfShare.IsIdealRate, HalfShare.RefusesTwo}
use Rattle.eevdf_fairness.specs.Turns.{Turn, AreNoLonger, HaveNoShorterTicks}
use Rattle.eevdf_fairness.specs.{Anywhere.NoneIsPast, Healing.HasNotYielded, Healing.HasCaughtUp, OneCpu.OnlyTurnsTouch}
use Rattle.eevdf_fairness.specs.{Share.swing, Share.NoneLosesMore, Lines.time_on, Lines.time_of, Lines.HasItsShareOfLines}

-- of the deeds of all CPUs, without the pulls that failed, those that touch a CPU's queue are its turns
abbrev pub OnlyTurnsCount : List ℕ → Machine → ℕ → List Deed → List Turn → Type 0
OnlyTurnsCount homes m cpu deeds turns = OnlyTurnsTouch homes cpu (effective homes m deeds) turns

-- by these turns the CPU catches up with a front that no task there was past
pub record CatchesUp (homes : List ℕ) (m : Machine) (cpu : ℕ) (deeds : List Deed) (turns : List Turn) (front : ℤ) (ns : ℕ) : Type 0 where
  pub only : OnlyTurnsCount homes m cpu deeds turns
  pub none_past : NoneIsPast front (queue_at m cpu).runnable
  pub none_yielded : (t : ℕ) (e : Entry) → get (queue_at m cpu).runnable t ≡ Some e → HasNotYielded e
  pub no_longer : AreNoLonger ns turns
  pub caught_up : HasCaughtUp front ns (queue_at m cpu) turns

-- then each task has its share of the time that the lines tell, over any further turns of the CPU
abbrev pub HealedCpuGivesShares : Type 0
HealedCpuGivesShares =
    (homes : List ℕ) (m : Machine) (cpu : ℕ) (earlier deeds : List Deed) (front : ℤ) (ns : ℕ) (before turns : List Turn) → cpu < length m
    → CatchesUp homes m cpu earlier before front ns
    → OnlyTurnsCount homes (machine_after homes m earlier) cpu deeds turns → AreNoLonger ns turns
    → (t : ℕ) (e : Entry) → get (queue_at (machine_after homes m earlier) cpu).runnable t ≡ Some e
    → HasItsShareOfLines ns cpu (lines_of homes (machine_after homes m earlier) deeds)
    (queue_at (machine_after homes m earlier) cpu) turns t e

-- On a CPU of load `W` that ran for `T`, a task of weight `w` ran for `s`. That is at least this part, `part / of`, of the time
-- `share / parts * T` that it has in the ideal, but for what rounding takes, `w / W * T` times `most / (1024 * least)`, and for
-- `swing / (1024 * W)`; each side stands times what it is divided by
pub record HasOfIdealTime (part of share parts w W swing least most T s : ℕ) : Type 0 where
  pub at_least : part * (share * (W * (1024 * least * T))) ≤ of * (parts * (W * (1024 * least * s) + w * (most * T) + least * swing))

-- after the last pull: where the least loaded CPU would take neither of two tasks of a CPU, and that has caught up, each of its
-- tasks runs for at least a part, by the number of CPUs, of its ideal share of the CPU's time, while its turns alone change its queue
abbrev pub BalancedGivesOfTime : (ℕ → ℕ) → (ℕ → ℕ) → Type 0
BalancedGivesOfTime part of =
    (homes : List ℕ) (begun m : Machine) (cpu source rate parts : ℕ) (earlier deeds : List Deed) (front : ℤ) (ns : ℕ)
    (before turns : List Turn)
    → source < length begun → CatchesUp homes begun source earlier before front ns → m ≡ machine_after homes begun earlier
    → RefusesTwo m cpu source → IsIdealRate m rate parts → OnlyTurnsCount homes m source deeds turns → AreNoLonger ns turns
    → (least most : ℕ) → HaveNoShorterTicks least turns → NoneLosesMore most (queue_at m source).runnable
    → (t : ℕ) (e : Entry) → get (queue_at m source).runnable t ≡ Some e
    → HasOfIdealTime (part (length m)) (of (length m)) (ideal rate parts e) parts (weight_of e.nice)
    (total_weight (queue_at m source).runnable) (swing ns (queue_at m source).runnable e) least most
    (time_on source (lines_of homes m deeds)) (time_of t source (lines_of homes m deeds))
