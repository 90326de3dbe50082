-- The deeds by which a task joins others.
use Rattle.std.specs.Prelude.{◌≡◌, ℕ, ◌≤◌, true, ℤ, Some, None}
use Rattle.std.specs.FinMap.{get}
use Rattle.eevdf_queue.specs.{declared.entry.Entry.Entry, declared.sleeper.Sleeper.Sleeper, declared.answers.WakeAnswer.TheVariants.Woken}
use Rattle.eevdf_queue.specs.{declared.answers.ReniceAnswer.TheVariants.Reniced, State.State, State.Contents, Sums.total_weight}
use Rattle.eevdf_queue.specs.{Lag.is_lag, Leaving.leave, Moves.sleeper_of, Placing.can_place}
use Rattle.eevdf_queue.specs.{Wake.wake, Renice.renice, Renice.reniced}
use Rattle.eevdf_ops.specs.WholePull.{with_task}
use Rattle.eevdf_fairness.specs.Joining.{Joins}

-- some task is runnable, and this one isn't among them
pub record HasOthers (q : State) (task : ℕ) : Type 0 where
  pub some : 1 ≤ total_weight q.runnable
  pub absent : get q.runnable task ≡ None

pub record DeedsJoin : Type 0 where
  -- a wake that is done, of a task without a place: one that dozes may come later
  pub wakes : (q : State) (task : ℕ) (s : Sleeper) → HasOthers q task → is_lag s.lag s.nice s.slice ≡ true
      → get q.asleep task ≡ Some s → get q.places task ≡ None → (wake q task).0 ≡ Woken → Joins q task s (wake q task).1
  -- a pull that takes a task, at the CPU that pulls
  pub pulls : (q : State) (p : Contents) → HasOthers q p.task → is_lag p.lag p.nice p.slice ≡ true
      → can_place q (sleeper_of p) ≡ true → Joins q p.task (sleeper_of p) (with_task q p)
  -- a renice that is done: the task joins the others, which are there without it
  pub renices : (q : State) (task : ℕ) (nice : ℤ) (e : Entry) → get q.runnable task ≡ Some e → HasOthers (leave q task) task
      → (renice q task nice).0 ≡ Reniced → Joins (leave q task) task (reniced q e nice) (renice q task nice).1
