-- When the running task's request is used up.
use Rattle.std.specs.Prelude.{ℕ, Bool}
use Rattle.eevdf_queue.specs.{State.State, TimeToResched.ends_request}
use Rattle.eevdf_queue.specs.Tick as ticks

-- a tick of so many nanoseconds would use it up
abbrev pub uses_up : State → ℕ → Bool
uses_up q ns = ends_request (ticks.tick q ns).0
