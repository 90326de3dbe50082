-- A pull through C: a waiting task of one queue comes to another, where that brings the two loads closer.
use Rattle.std.specs.Prelude.{ℕ, ◌+◌, nat_lt, ℤ, pos, Bool, if◌then◌else◌, Option, Some, None, Result, Ok, Err}
use Rattle.eevdf_weight.specs.Weight.{weight_of}
use Rattle.eevdf_queue.specs.{State.State, State.Contents, Sums.total_weight, Offers.offer, Trying.tried}
use Rattle.eevdf_queue.specs.declared.refusal.Refusal.{Refusal}
use Rattle.eevdf_queue.specs.{Candidate.is_running, Numbers.checked_number}
use Rattle.eevdf_queue.specs.{Moves.sleeper_of, Placing.put, Leaving.carried, Leaving.leave}
use Rattle.eevdf_c.specs.{Admit.refusal_code, Codes.absent, Codes.balanced, Codes.invalid}

-- what a pull answers, and both queues afterwards: the one that the task comes to, and the one that it comes from
pub record Outcome : Type 0 where
  pub answer : ℤ
  pub to : State
  pub from : State

-- whether a queue with the task would still be loaded less than the one that the task comes from
abbrev pub is_lighter : State → Contents → State → Bool
is_lighter q p source = nat_lt (total_weight q.runnable + weight_of p.nice) (total_weight source.runnable)

abbrev pub none_comes : State → State → ℤ → Outcome
none_comes q source why = record { answer = why; to = q; from = source }

abbrev pub joined : State → State → Contents → Result State Refusal → Outcome
joined q source p (Ok after) = record { answer = pos p.task; to = after; from = leave source p.task }
joined q source p (Err reason) = none_comes q source (refusal_code reason)

-- a task is offered, or none
abbrev pub pull_offered : State → State → Option Contents → Outcome
pull_offered q source None = none_comes q source absent
pull_offered q source (Some p) =
    if is_lighter q p source then joined q source p (tried q p.task (put q p.task (sleeper_of p)))
    else none_comes q source balanced

-- the candidate of the source comes to the queue
abbrev pub pull : State → State → Outcome
pull q source = pull_offered q source (offer source)

-- what a task would carry that waits here, and none of any other
abbrev pub waiting : State → ℕ → Option Contents
waiting q task = if is_running q.running task then None else carried q task

abbrev pub pull_task_by : State → State → Option ℕ → Outcome
pull_task_by q source None = none_comes q source invalid
pull_task_by q source (Some task) = pull_offered q source (waiting source task)

-- the same of a task that is named, where it waits
abbrev pub pull_task : State → State → ℕ → Outcome
pull_task q source number = pull_task_by q source (checked_number number)
