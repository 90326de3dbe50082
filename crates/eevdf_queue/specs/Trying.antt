-- What comes of a task that is to join a queue, where nothing was tested before.
use Rattle.std.specs.Prelude.{ℕ, ◌||◌, Bool, if◌then◌else◌, Option, Some, None, Result, Ok, Err}
use Rattle.std.specs.FinMap as map
use Rattle.eevdf_queue.specs.{declared.refusal.Refusal.Refusal, declared.refusal.Refusal.TheVariants.Present}
use Rattle.eevdf_queue.specs.{declared.refusal.Refusal.TheVariants.Range, State.State}

-- the task is here, runnable or asleep
abbrev pub is_here : State → ℕ → Bool
is_here q task = map.contains_key q.runnable task || map.contains_key q.asleep task

-- the queue that the task has joined, or the refusal where it would be out of range
abbrev pub unless_out_of_range : Option State → Result State Refusal
unless_out_of_range None = Err Range
unless_out_of_range (Some q) = Ok q

-- the queue afterwards, or why the task doesn't join
abbrev pub tried : State → ℕ → Option State → Result State Refusal
tried q task joined = if is_here q task then Err Present else unless_out_of_range joined
