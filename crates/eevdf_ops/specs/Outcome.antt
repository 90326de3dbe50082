-- What a run comes to.
use Rattle.std.specs.Prelude.{ℕ, List, map}
use Rattle.eevdf_queue.specs.State.{View}
use Rattle.eevdf_ops.specs.{declared.deeds.Line.Line, Machine.Machine}

-- the machine that a list of queues is
abbrev pub machine_of : List View → Machine
machine_of queues = map (λ (q : View). q.state) queues

-- the lines in order, the queues by CPU, and the requests that were posted and not drained: those of
-- sender q to home c at place q * n + c of n CPUs
pub record Outcome : Type 0 where
  pub lines : List Line
  pub queues : List View
  pub left : List (List ℕ)

-- a scheduler of one thread: the home of each task, and the queues by CPU
pub record Solo : Type 0 where
  pub homes : List ℕ
  pub queues : List View
