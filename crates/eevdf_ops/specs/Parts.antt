-- A deed by parts, each of one queue's state alone.
use Rattle.std.specs.Prelude.{◌≡◌, ℕ, ◌==◌, Bool, ◌||◌, List, [], if◌then◌else◌, Option, None}
use Rattle.eevdf_queue.specs.{State.State, State.Contents, Leaving.carried_running}
use Rattle.eevdf_ops.specs.{declared.deeds.Deed.Deed, declared.deeds.Answer.Answer, declared.deeds.Answer.TheVariants.Nothing, declared.deeds.Answer.TheVariants.Pulled}
use Rattle.eevdf_ops.specs.{declared.acts.Act.Act, Acts.act_of, LocalActs.local_done, Setup.home_of, WholeEnd.ending}
use Rattle.eevdf_ops.specs.declared.acts.Act.TheVariants as act
use Rattle.eevdf_ops.specs.declared.deeds.Deed.TheVariants.{Sleep, Doze, Pull, End}
use Rattle.eevdf_ops.specs.WholePull.{offer, load_of, decision}
pub use Rattle.eevdf_ops.specs.Origins.{decider}
pub use Rattle.eevdf_ops.specs.Halves.{answer_of_sleep, answer_of_end, answer_of_pull, after_leaving, after_falling_asleep, after_joining, after_putting, putting_of_doze}

-- the CPU whose queue a task may leave
abbrev pub giver : Deed → ℕ
giver (Pull cpu source) = source
giver deed = decider deed

-- the CPU whose queue a task may join
abbrev pub taker : List ℕ → Deed → ℕ
taker homes (Sleep cpu task) = home_of homes task
taker homes (Doze cpu task) = home_of homes task
taker homes (End cpu task) = home_of homes task
taker homes deed = decider deed

-- whether a deed reads or writes the queue of a CPU
abbrev pub touches : List ℕ → Deed → ℕ → Bool
touches homes deed c = (c == decider deed) || ((c == giver deed) || (c == taker homes deed))

-- what passes between queues: the task that leaves or is offered, with what it carries, and the load that it
-- leaves from
pub record Moved : Type 0 where
  pub contents : Option Contents
  pub load : ℕ

-- what the giver's queue has for it
abbrev pub given : Deed → State → Moved
given (Sleep cpu task) q = record { contents = carried_running q task; load = load_of q }
given (Doze cpu task) q = record { contents = carried_running q task; load = load_of q }
given (End cpu task) q = record { contents = ending q task; load = load_of q }
given (Pull cpu source) q = record { contents = offer q; load = load_of q }
given deed q = record { contents = None; load = load_of q }

-- what an act on one queue answers and leaves; of one across two nothing is said
abbrev pub done_alone : Act → State → Answer × State
done_alone (act.Local a) q = local_done a q
done_alone (act.Transfer other t) q = (Nothing, q)

-- what the decider's queue answers
abbrev pub local_answer : Deed → State → Moved → Answer
local_answer (Sleep cpu task) q moved = answer_of_sleep moved.contents
local_answer (Doze cpu task) q moved = answer_of_sleep moved.contents
local_answer (End cpu task) q moved = answer_of_end moved.contents
local_answer (Pull cpu source) q moved = answer_of_pull (decision q moved.load moved.contents)
local_answer deed q moved = (done_alone (act_of [] deed) q).0

-- the queue of a CPU agrees with what was answered and what moved
pub record Agrees (deed : Deed) (c : ℕ) (q : State) (answer : Answer) (moved : Moved) : Type 0 where
  pub gives : c ≡ giver deed → moved ≡ given deed q
  pub answers : c ≡ decider deed → answer ≡ local_answer deed q moved

-- the task that a pull takes
abbrev pub taken : Answer → Option Contents → Option Contents
taken (Pulled task) contents = contents
taken answer contents = None

-- a queue, changed where it is that of this CPU
abbrev pub only_at : ℕ → ℕ → (State → State) → State → State
only_at cpu c change q = if c == cpu then change q else q

-- the queue of a CPU afterwards
abbrev pub local_after : List ℕ → Deed → ℕ → State → Answer → Moved → State
local_after homes (Sleep cpu task) c q answer moved =
    only_at (home_of homes task) c (after_falling_asleep moved.contents) (only_at cpu c (after_leaving moved.contents) q)
local_after homes (Doze cpu task) c q answer moved =
    only_at (home_of homes task) c (after_putting (putting_of_doze cpu (home_of homes task)) moved.contents) (only_at cpu c (after_leaving moved.contents) q)
local_after homes (End cpu task) c q answer moved =
    only_at (home_of homes task) c (after_falling_asleep moved.contents) (only_at cpu c (after_leaving moved.contents) q)
local_after homes (Pull cpu source) c q answer moved =
    only_at cpu c (after_joining (taken answer moved.contents)) (only_at source c (after_leaving (taken answer moved.contents)) q)
local_after homes deed c q answer moved = only_at (decider deed) c (λ r. (done_alone (act_of [] deed) r).1) q
