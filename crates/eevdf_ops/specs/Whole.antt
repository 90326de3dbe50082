-- Whole operations: a deed done at once, and the history of a list of deeds.
use Rattle.std.specs.Prelude.{ℕ, List, [], ◌∷◌, slice_set}
use Rattle.eevdf_queue.specs.State.{State}
use Rattle.eevdf_ops.specs.{declared.deeds.Deed.Deed, declared.deeds.Answer.Answer, declared.deeds.Line.Line, declared.acts.Act.Act}
use Rattle.eevdf_ops.specs.{Machine.Machine, Machine.queue_at, Acts.act_of, LocalActs.local_done, Transfers.transferred, Parts.decider}
use Rattle.eevdf_ops.specs.declared.acts.Act.TheVariants as act

-- a deed on one queue of the machine, whose other queues stay
abbrev pub at_cpu : Machine → ℕ → Answer × State → Answer × Machine
at_cpu m cpu step = (step.0, slice_set m cpu step.1)

-- a deed on the queue of a CPU and on another one
abbrev pub at_two : Machine → ℕ → ℕ → Answer × (State × State) → Answer × Machine
at_two m cpu other step = (step.0, slice_set (slice_set m cpu step.1.0) other step.1.1)

-- what a CPU does, done at once
abbrev pub done_at : ℕ → Act → Machine → Answer × Machine
done_at cpu (act.Local a) m = at_cpu m cpu (local_done a (queue_at m cpu))
done_at cpu (act.Transfer other t) m = at_two m cpu other (transferred t (queue_at m cpu) (queue_at m other))

-- a deed done at once; the list has the home of each task
abbrev pub whole : List ℕ → Deed → Machine → Answer × Machine
whole homes deed m = done_at (decider deed) (act_of homes deed) m

-- the answers of a list of deeds, done one after the other
abbrev pub lines_of : List ℕ → Machine → List Deed → List Line
lines_of homes m [] = []
lines_of homes m (d ∷ ds) = record { deed = d; answer = (whole homes d m).0 } ∷ lines_of homes (whole homes d m).1 ds

-- the machine that they leave
abbrev pub machine_after : List ℕ → Machine → List Deed → Machine
machine_after homes m [] = m
machine_after homes m (d ∷ ds) = machine_after homes (whole homes d m).1 ds
