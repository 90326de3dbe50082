-- The halves of a move: what is taken out of a queue, and what is put into one.
use Rattle.std.specs.Prelude.{◌≡◌, ℕ, ◌==◌, true, false, if◌then◌else◌, Option, Some, None, Result, Ok, Err}
use Rattle.std.specs.FinMap as map
use Rattle.eevdf_queue.specs.{State.State, State.Contents, Candidate.is_running, Leaving.carried, Leaving.carried_running, Leaving.leave, Doze.put_dozing, Moves.put_asleep, Moves.sleeper_of, Placing.can_place}
use Rattle.eevdf_ops.specs.{declared.deeds.Answer.Answer, declared.halves.Taking.Taking, declared.halves.Putting.Putting}
use Rattle.eevdf_ops.specs.declared.deeds.Answer.TheVariants.{Ended, NotHere, NotRunning, Pulled}
use Rattle.eevdf_ops.specs.declared.halves.Taking.TheVariants.{Sleep, End, Pull}
use Rattle.eevdf_ops.specs.declared.halves.Putting.TheVariants.{Asleep, Dozing, Runnable}
use Rattle.eevdf_ops.specs.{WholeEnd.ending, WholePull.with_task, WholeSleep.slept}

-- a queue after a task has left it, has fallen asleep in it, has dozed off in it, has joined it
abbrev pub after_leaving : Option Contents → State → State
after_leaving None q = q
after_leaving (Some p) q = leave q p.task

abbrev pub after_falling_asleep : Option Contents → State → State
after_falling_asleep None q = q
after_falling_asleep (Some p) q = put_asleep q p

abbrev pub after_dozing_off : Option Contents → State → State
after_dozing_off None q = q
after_dozing_off (Some p) q = put_dozing q p

abbrev pub after_joining : Option Contents → State → State
after_joining None q = q
after_joining (Some p) q = with_task q p

-- what is answered, by the task that leaves
abbrev pub answer_of_sleep : Option Contents → Answer
answer_of_sleep None = NotRunning
answer_of_sleep (Some p) = slept p

abbrev pub answer_of_end : Option Contents → Answer
answer_of_end None = NotHere
answer_of_end (Some p) = Ended

abbrev pub answer_of_pull : Result Contents Answer → Answer
answer_of_pull (Ok p) = Pulled p.task
answer_of_pull (Err refusal) = refusal

-- the task of a pull waits there
abbrev pub CanTake : Taking → State → Type 0
CanTake (Pull (Ok task)) q = (map.contains_key q.runnable task ≡ true) × (is_running q.running task ≡ false)
CanTake other q = Unit {0}

-- the task that leaves, with what it carries
abbrev pub taken_out : Taking → State → Option Contents
taken_out (Sleep task) q = carried_running q task
taken_out (End task) q = ending q task
taken_out (Pull (Ok task)) q = carried q task
taken_out (Pull (Err refusal)) q = None

-- the answer, by the task that leaves
abbrev pub answer_of_taking : Taking → Option Contents → Answer
answer_of_taking (Sleep task) taken = answer_of_sleep taken
answer_of_taking (End task) taken = answer_of_end taken
answer_of_taking (Pull (Ok task)) taken = Pulled task
answer_of_taking (Pull (Err refusal)) taken = refusal

-- how a task that dozes off on a CPU is put into the queue of its home: away from there a doze is a sleep
abbrev pub putting_of_doze : ℕ → ℕ → Putting
putting_of_doze cpu home = if home == cpu then Dozing else Asleep

-- a queue with the task that was taken, where one was
abbrev pub after_putting : Putting → Option Contents → State → State
after_putting Asleep taken q = after_falling_asleep taken q
after_putting Dozing taken q = after_dozing_off taken q
after_putting Runnable taken q = after_joining taken q

-- there is room for it
abbrev pub HasRoom : Putting → State → Contents → Type 0
HasRoom Asleep q p = Unit {0}
HasRoom Dozing q p = Unit {0}
HasRoom Runnable q p = can_place q (sleeper_of p) ≡ true
