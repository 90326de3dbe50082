-- How the queues, the hands and the answers of all callers follow from the machine of the history.
use Rattle.std.specs.Prelude.{◌≡◌, ℕ, true, false, List, Option}
use Rattle.eevdf_ops.specs.declared.deeds.{Line.Line}
use Rattle.eevdf_ops.specs.{Machine.Machine, Machine.queue_at, Histories.AreHistory, Histories.machine_told}
use Rattle.eevdf_steps.specs.{Plan.Plan, Counters.Counters, Counters.holds, Counters.step_next}
use Rattle.eevdf_steps.specs.Work.{Work, answer, hand}
use Rattle.eevdf_steps.specs.UnderWay.{KeepsAnswer, UnderWay, hand_seen, queue_seen, under_way}

-- what a caller has under way
abbrev pub begun_by : Plan → Counters → ℕ → Option UnderWay
begun_by plan counters caller = under_way caller (step_next plan counters caller)

-- nobody holds the lock of a CPU
abbrev pub IsFree : Plan → Counters → ℕ → Type 0
IsFree plan counters cpu = (caller : ℕ) → holds plan counters cpu caller ≡ false

-- at most one caller holds each lock; a queue that nobody holds is that of the history; and each caller sees in the
-- queues that it holds, in its hand and in its answer what its own part of the whole operation makes of the history
pub record FollowsHistory (plan : Plan) (m : Machine) (counters : Counters) (w : Work) : Type 0 where
  pub alone : (cpu p q : ℕ) → holds plan counters cpu p ≡ true → holds plan counters cpu q ≡ true → p ≡ q
  pub free : (cpu : ℕ) → IsFree plan counters cpu → queue_at w.machine cpu ≡ queue_at m cpu
  pub held : (cpu p : ℕ) → holds plan counters cpu p ≡ true → queue_at w.machine cpu ≡ queue_seen plan.homes m (begun_by plan counters p) cpu
  pub hands : (p : ℕ) → hand w p ≡ hand_seen plan.homes m (begun_by plan counters p)
  pub answers : (p : ℕ) → KeepsAnswer plan.homes m (begun_by plan counters p) (answer w p)

-- the lines are a history, and all that the callers see follows from the machine that it leaves
pub record IsSerial (plan : Plan) (start : Machine) (counters : Counters) (w : Work) (lines : List Line) : Type 0 where
  pub history : AreHistory plan.homes start lines
  pub seen : FollowsHistory plan (machine_told plan.homes start lines) counters w
