-- Calls of a queue that leave its bounds as they are.
use Rattle.std.specs.Prelude.{ℕ, ℤ}
use Rattle.eevdf_queue.specs.{State.State, State.Contents, Doze.doze, Doze.put_dozing, Yield.yield_now, Attributes.begin, Moves.put_asleep}
use Rattle.eevdf_queue.specs.{Leaving.leave, Leaving.leave_running, Leaving.leave_asleep, Leaving.nobody_runs, SliceChange.set_slice}
use Rattle.eevdf_fair_queue.specs.{declared.bounds.Bounds.Bounds, Fair.IsFair}

-- what was true of a queue is true of it once a task dozes, yields, begins anew, gets another slice, leaves or falls asleep, or nobody runs
pub record AreKept (q : State) (b : Bounds) : Type 0 where
  pub dozes : (task : ℕ) → IsFair (doze q task) b
  pub yields : IsFair (yield_now q).1 b
  pub begins : (task : ℕ) (nice : ℤ) (slice : ℕ) → IsFair (begin q task nice slice) b
  pub slices : (task slice : ℕ) → IsFair (set_slice q task slice) b
  pub leaves : (task : ℕ) → IsFair (leave q task) b
  pub leaves_running : (task : ℕ) → IsFair (leave_running q task) b
  pub leaves_asleep : (task : ℕ) → IsFair (leave_asleep q task) b
  pub put_asleep : (p : Contents) → IsFair (put_asleep q p) b
  pub put_dozing : (p : Contents) → IsFair (put_dozing q p) b
  pub stops : IsFair (nobody_runs q) b

abbrev pub LeavingsKeepBounds : Type 0
LeavingsKeepBounds = (q : State) (b : Bounds) → IsFair q b → AreKept q b
