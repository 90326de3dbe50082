-- A pull: the candidate of the source comes to the CPU, where that levels their loads.
use Rattle.std.specs.Prelude.{ℕ, ◌+◌, nat_lt, Bool, if◌then◌else◌, Option, Some, None, Result, Ok, Err}
use Rattle.std.specs.{Option.unwrap_or, Result.result_map_both}
pub use Rattle.eevdf_queue.specs.Offers.{offer}
use Rattle.eevdf_weight.specs.Weight.{weight_of}
use Rattle.eevdf_queue.specs.{State.State, State.Contents, Sums.total_weight, Moves.sleeper_of}
use Rattle.eevdf_queue.specs.{Placing.can_place, Placing.put}
use Rattle.eevdf_ops.specs.{declared.deeds.Answer.Answer, Machine.Machine, Machine.queue_at}
use Rattle.eevdf_ops.specs.declared.deeds.Answer.TheVariants.{Balanced, Nothing, Range}

-- what a pull reads of its source, beside the offer
abbrev pub load_of : State → ℕ
load_of q = total_weight q.runnable

-- whether a CPU of this load would with the task still be loaded less than the source is
abbrev pub is_lighter : ℕ → Contents → ℕ → Bool
is_lighter load p source_load = nat_lt (load + weight_of p.nice) source_load

-- what the CPU decides, from the source's load and offer: the task that it takes, or why it takes none
abbrev pub decision : State → ℕ → Option Contents → Result Contents Answer
decision q source_load None = Err Nothing
decision q source_load (Some p) =
    if is_lighter (load_of q) p source_load then (if can_place q (sleeper_of p) then Ok p else Err Range)
    else Err Balanced

-- the number of the task alone
abbrev pub task_of : Result Contents Answer → Result ℕ Answer
task_of decided = result_map_both (λ (p : Contents). p.task) (λ (a : Answer). a) decided

-- the same of two CPUs of a machine
abbrev pub pull_decision : Machine → ℕ → ℕ → Result Contents Answer
pull_decision m cpu source = decision (queue_at m cpu) (load_of (queue_at m source)) (offer (queue_at m source))

-- a queue with the task, where it can be placed there
abbrev pub with_task : State → Contents → State
with_task q p = unwrap_or (put q p.task (sleeper_of p)) q
