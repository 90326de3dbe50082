-- What an act across two queues answers and leaves: the first is that of the CPU that does it.
use Rattle.std.specs.Prelude.{ℕ, ◌+◌, ◌≤◌, Option, Result}
use Rattle.std.specs.Result.{result_ok}
use Rattle.eevdf_queue.specs.{State.State, State.Contents, Leaving.carried_running}
use Rattle.eevdf_ops.specs.{declared.acts.Transfer.Transfer, declared.acts.Transfer.TheVariants.Sleep, declared.acts.Transfer.TheVariants.Pull, declared.acts.Transfer.TheVariants.End}
use Rattle.eevdf_ops.specs.{declared.deeds.Answer.Answer, Places.places_in, WholeEnd.ending, WholePull.offer, WholePull.load_of, WholePull.decision}
use Rattle.eevdf_ops.specs.Halves.{after_falling_asleep, after_joining, after_leaving, answer_of_end, answer_of_pull, answer_of_sleep}

-- a task falls asleep in another queue than the one where it runs; what it carries, none where it doesn't run
abbrev pub slept_away : Option Contents → State → State → Answer × (State × State)
slept_away o q home = (answer_of_sleep o, (after_leaving o q, after_falling_asleep o home))

-- a task ends in another queue than that of its home; what it takes along, none where it isn't runnable
abbrev pub ended_away : Option Contents → State → State → Answer × (State × State)
ended_away o q home = (answer_of_end o, (after_leaving o q, after_falling_asleep o home))

-- the task comes that the decision is to take
abbrev pub pulled : Result Contents Answer → State → State → Answer × (State × State)
pulled d q source = (answer_of_pull d, (after_joining (result_ok d) q, after_leaving (result_ok d) source))

abbrev pub transferred : Transfer → State → State → Answer × (State × State)
transferred (Sleep task) q r = slept_away (carried_running q task) q r
transferred Pull q r = pulled (decision q (load_of r) (offer r)) q r
transferred (End task) q r = ended_away (ending q task) q r

-- no task stands in both queues, nor in one of them twice
abbrev pub NoneTwice : State → State → Type 0
NoneTwice q r = (task : ℕ) → places_in q task + places_in r task ≤ 1
