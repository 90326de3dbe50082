-- How the running task falls asleep.
use Rattle.std.specs.Prelude.{ℕ, Option, Some, None}
use Rattle.eevdf_queue.specs.{State.State, State.Contents, Moves.put_asleep, Leaving.carried_running, Leaving.leave}

abbrev pub slept_by : State → ℕ → Option Contents → State
slept_by q task None = q
slept_by q task (Some p) = put_asleep (leave q task) p

-- the queue where a task has fallen asleep, if it ran
abbrev pub slept : State → ℕ → State
slept q task = slept_by q task (carried_running q task)
