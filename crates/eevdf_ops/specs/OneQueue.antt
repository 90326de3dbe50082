-- Deeds on one queue, with their answers.
use Rattle.std.specs.Prelude.{ℕ, ℤ, Bool, true, false, Option, Some, None}
use Rattle.std.specs.FinMap as map
use Rattle.eevdf_queue.specs.{declared.answers.TickAnswer.TickAnswer, declared.answers.YieldAnswer.YieldAnswer}
use Rattle.eevdf_queue.specs.{declared.answers.WakeAnswer.WakeAnswer, declared.answers.ReniceAnswer.ReniceAnswer, declared.answers.SetAnswer.SetAnswer, State.State}
use Rattle.eevdf_queue.specs.{Tick.tick, Pick.pick_of, Pick.after_pick, Yield.yield_now, Wake.wake, Renice.renice, Attributes.set, Attributes.begin, Rebase.rebase}
use Rattle.eevdf_queue.specs.declared.answers.TickAnswer.TheVariants as tick_answer
use Rattle.eevdf_queue.specs.declared.answers.YieldAnswer.TheVariants as yield_answer
use Rattle.eevdf_queue.specs.declared.answers.WakeAnswer.TheVariants as wake_answer
use Rattle.eevdf_queue.specs.declared.answers.ReniceAnswer.TheVariants as renice_answer
use Rattle.eevdf_queue.specs.declared.answers.SetAnswer.TheVariants as set_answer
use Rattle.eevdf_ops.specs.declared.deeds.Answer.{Answer}
use Rattle.eevdf_ops.specs.declared.deeds.Answer.TheVariants.{Charged, Picked, Idle, Yielded, Woken, Awake, Range, Reniced, NotHere, Begun, Set, Rebased}

abbrev pub answer_of_tick : TickAnswer → Answer
answer_of_tick (tick_answer.Charged task resched) = Charged task resched
answer_of_tick tick_answer.Idle = Idle
answer_of_tick tick_answer.Range = Range

abbrev pub answer_of_pick : Option ℕ → Answer
answer_of_pick (Some task) = Picked task
answer_of_pick None = Idle

abbrev pub answer_of_yield : YieldAnswer → Answer
answer_of_yield yield_answer.Yielded = Yielded
answer_of_yield yield_answer.Idle = Idle
answer_of_yield yield_answer.Range = Range

abbrev pub answer_of_wake : WakeAnswer → Answer
answer_of_wake wake_answer.Woken = Woken
answer_of_wake wake_answer.Awake = Awake
answer_of_wake wake_answer.Range = Range

abbrev pub answer_of_renice : ReniceAnswer → Answer
answer_of_renice renice_answer.Reniced = Reniced
answer_of_renice renice_answer.NotHere = NotHere
answer_of_renice renice_answer.Range = Range

abbrev pub answer_of_set : SetAnswer → Answer
answer_of_set set_answer.Set = Set
answer_of_set set_answer.NotHere = NotHere
answer_of_set set_answer.Range = Range

-- what a begin answers, by whether the task sleeps here
abbrev pub answer_of_begin : Bool → Answer
answer_of_begin true = Begun
answer_of_begin false = Awake

-- what a deed on one queue answers and leaves
abbrev pub one_tick : State → ℕ → Answer × State
one_tick q ns = (answer_of_tick (tick q ns).0, (tick q ns).1)

abbrev pub one_pick : State → Answer × State
one_pick q = (answer_of_pick (pick_of q.runnable), after_pick q)

abbrev pub one_yield : State → Answer × State
one_yield q = (answer_of_yield (yield_now q).0, (yield_now q).1)

abbrev pub one_wake : State → ℕ → Answer × State
one_wake q task = (answer_of_wake (wake q task).0, (wake q task).1)

abbrev pub one_renice : State → ℕ → ℤ → Answer × State
one_renice q task nice = (answer_of_renice (renice q task nice).0, (renice q task nice).1)

abbrev pub one_begin : State → ℕ → ℤ → ℕ → Answer × State
one_begin q task nice slice = (answer_of_begin (map.contains_key q.asleep task), begin q task nice slice)

abbrev pub one_set : State → ℕ → ℤ → ℕ → Answer × State
one_set q task nice slice = (answer_of_set (set q task nice slice).0, (set q task nice slice).1)

abbrev pub one_rebase : State → Answer × State
one_rebase q = (Rebased (rebase q).0, (rebase q).1)
