-- The work that the callers do on the queues.
use Rattle.std.specs.Prelude.{ℕ, nat_lt, Bool, true, List, slice_index_or, slice_set, Option, Some, None}
use Rattle.eevdf_queue.specs.State.{State, Contents}
use Rattle.eevdf_ops.specs.{declared.acts.LocalAct.LocalAct, declared.deeds.Op.Op, declared.deeds.Answer.Answer, declared.halves.Putting.Putting, declared.halves.Taking.Taking}
use Rattle.eevdf_ops.specs.declared.deeds.Op.TheVariants as op
use Rattle.eevdf_ops.specs.declared.halves.Putting.TheVariants.{Asleep, Runnable}
use Rattle.eevdf_ops.specs.declared.halves.Taking.TheVariants as taking
use Rattle.eevdf_ops.specs.{Acts.local_of, LocalActs.local_done, Machine.Machine, Machine.queue_at, OneQueue.one_wake}
use Rattle.eevdf_ops.specs.{Halves.after_putting, Halves.answer_of_taking, Halves.putting_of_doze, Halves.taken_out, Parts.after_leaving, WholePull.pull_decision, WholePull.task_of}

-- the queues, the task in each caller's hand, and the answer that each caller keeps
pub record Work : Type 0 where
  pub machine : Machine
  pub hands : List (Option Contents)
  pub answers : List (Option Answer)

abbrev pub hand : Work → ℕ → Option Contents
hand w caller = slice_index_or w.hands caller None

abbrev pub answer : Work → ℕ → Option Answer
answer w caller = slice_index_or w.answers caller None

-- a caller keeps an answer
abbrev pub answered : Work → ℕ → Answer → Work
answered w caller a = record w { answers = slice_set w.answers caller (Some a) }

-- the queue of a CPU is another
abbrev pub with_queue : Work → ℕ → State → Work
with_queue w cpu q = record w { machine = slice_set w.machine cpu q }

-- a deed on the caller's own queue is done, and its answer kept
abbrev pub acted : Work → ℕ → Answer × State → Work
acted w caller done = answered (with_queue w caller done.1) caller done.0

-- an act of a caller on its own queue, where there is one
abbrev pub local_act : Work → ℕ → Option LocalAct → Work
local_act w caller None = w
local_act w caller (Some a) = acted w caller (local_done a (queue_at w.machine caller))

abbrev pub act : Work → ℕ → Op → Work
act w caller o = local_act w caller (local_of o)

-- a task leaves a queue into the caller's hand, where one is taken out, and the caller keeps the answer
abbrev pub detached : Work → ℕ → ℕ → Answer → Option Contents → Work
detached w caller giver a o = record {
  machine = slice_set w.machine giver (after_leaving o (queue_at w.machine giver));
  hands = slice_set w.hands caller o;
  answers = slice_set w.answers caller (Some a);
}

abbrev pub take_out : Work → ℕ → ℕ → Taking → Work
take_out w caller giver t = detached w caller giver (answer_of_taking t (taken_out t (queue_at w.machine giver))) (taken_out t (queue_at w.machine giver))

-- the task of an operation leaves into the caller's hand
abbrev pub detach : Work → ℕ → Op → Work
detach w caller (op.Sleep task) = take_out w caller caller (taking.Sleep task)
detach w caller (op.Doze task) = take_out w caller caller (taking.Sleep task)
detach w caller (op.End task) = take_out w caller caller (taking.End task)
detach w caller (op.Pull source) = take_out w caller source (taking.Pull (task_of (pull_decision w.machine caller source)))
detach w caller _ = w

-- a pull is from one of so many queues
abbrev pub pulls_from : ℕ → Op → Bool
pulls_from queues (op.Pull source) = nat_lt source queues
pulls_from queues _ = true

-- a caller's hand is emptied
abbrev pub emptied : Work → ℕ → Work
emptied w caller = record w { hands = slice_set w.hands caller None }

-- the task in the caller's hand, where there is one, is put into a queue
abbrev pub put_in : Work → ℕ → ℕ → Putting → Option Contents → Work
put_in w caller taker how held = with_queue (emptied w caller) taker (after_putting how held (queue_at w.machine taker))

-- the home of the task is given
abbrev pub attach : ℕ → Work → ℕ → Op → Work
attach home w caller (op.Sleep task) = put_in w caller home Asleep (hand w caller)
attach home w caller (op.Doze task) = put_in w caller home (putting_of_doze caller home) (hand w caller)
attach home w caller (op.End task) = put_in w caller home Asleep (hand w caller)
attach home w caller (op.Pull source) = put_in w caller caller Runnable (hand w caller)
attach home w caller _ = w

-- a task is woken on the caller's own queue, with this answer
abbrev pub woken : Work → ℕ → ℕ → Work
woken w caller task = with_queue w caller (one_wake (queue_at w.machine caller) task).1

abbrev pub wake_answer : Work → ℕ → ℕ → Answer
wake_answer w caller task = (one_wake (queue_at w.machine caller) task).0
