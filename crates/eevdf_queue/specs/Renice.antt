-- A change of a task's nice level: the task leaves, and joins again at once with the lag that it keeps.
use Rattle.std.specs.Prelude.{ℕ, ℤ, pos, ◌*ℤ◌, Option, Some, None}
use Rattle.std.specs.FinMap as map
use Rattle.eevdf_weight.specs.{Weight.weight_of, Charge.lag_limit_of, Placement.floor_div}
use Rattle.eevdf_queue.specs.{declared.entry.Entry.Entry, declared.answers.ReniceAnswer.ReniceAnswer, State.State}
use Rattle.eevdf_queue.specs.{State.Sleeper, Lag.cut, Lag.kept_lag, Leaving.leave, Placing.put}
use Rattle.eevdf_queue.specs.declared.answers.ReniceAnswer.TheVariants.{Reniced, NotHere, Range}

-- a lag under another nice level: the same service in the virtual time of the new weight, rounded down, and cut
-- to the limit that the task then has
abbrev pub rescaled_lag : ℤ → Entry → ℤ → ℤ
rescaled_lag lag e nice =
    cut (floor_div (lag *ℤ pos (weight_of e.nice)) (weight_of nice)) (lag_limit_of e.slice (weight_of nice))

-- what a task of the queue brings along when it joins again under another nice level
abbrev pub reniced : State → Entry → ℤ → Sleeper
reniced q e nice = record { lag = rescaled_lag (kept_lag q e) e nice; nice = nice; slice = e.slice }

-- the task has joined again, if it could be placed: who ran before runs on
abbrev pub renice_to : State → Option State → ReniceAnswer × State
renice_to q None = (Range, q)
renice_to q (Some joined) = (Reniced, record joined { running = q.running })

abbrev pub renice_entry : State → ℕ → ℤ → Option Entry → ReniceAnswer × State
renice_entry q task nice None = (NotHere, q)
renice_entry q task nice (Some e) = renice_to q (put (leave q task) task (reniced q e nice))

-- the deed: what is answered, and the state afterwards
abbrev pub renice : State → ℕ → ℤ → ReniceAnswer × State
renice q task nice = renice_entry q task nice (map.get q.runnable task)
