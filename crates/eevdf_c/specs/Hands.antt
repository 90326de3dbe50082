-- A task in the caller's hand, on its way between two queues.
use Rattle.std.specs.Prelude.{ℕ, ℤ, pos, Bool, if◌then◌else◌, Option, Some, None, Result, Ok, Err}
use Rattle.eevdf_queue.specs.{State.State, State.Contents, Numbers.checked_number, Trying.tried, Trying.is_here}
use Rattle.eevdf_queue.specs.declared.refusal.Refusal.{Refusal}
use Rattle.eevdf_queue.specs.Closing as closing
use Rattle.eevdf_queue.specs.Moves as moves
use Rattle.eevdf_queue.specs.Placing as placing
use Rattle.eevdf_c.specs.Codes.{done, absent, busy, present, invalid}
use Rattle.eevdf_c.specs.Admit.{refusal_code}
use Rattle.eevdf_c.specs.Leaving.{carried_out, gone}

-- what a call about a queue and a hand answers, and both afterwards
pub record Outcome : Type 0 where
  pub answer : ℤ
  pub queue : State
  pub hand : Option Contents

abbrev pub take_with : State → ℕ → Option Contents → Outcome
take_with q task None = record { answer = absent; queue = q; hand = None }
take_with q task (Some p) = record { answer = done; queue = gone q task; hand = Some p }

abbrev pub take_by : State → Option Contents → Option ℕ → Outcome
take_by q h None = record { answer = invalid; queue = q; hand = h }
take_by q (Some p) (Some task) = record { answer = busy; queue = q; hand = Some p }
take_by q None (Some task) = take_with q task (carried_out q task)

-- a task goes from a queue into a hand
abbrev pub take : State → Option Contents → ℕ → Outcome
take q h number = take_by q h (checked_number number)

abbrev pub take_any_with : State → Option Contents → Outcome
take_any_with after None = record { answer = absent; queue = after; hand = None }
take_any_with after (Some p) = record { answer = pos p.task; queue = after; hand = Some p }

-- some task goes from a queue into a hand
abbrev pub take_any : State → Option Contents → Outcome
take_any q None = take_any_with (closing.take_any q).1 (closing.take_any q).0
take_any q (Some p) = record { answer = busy; queue = q; hand = Some p }

abbrev pub put_to : State → Contents → Result State Refusal → Outcome
put_to q p (Ok after) = record { answer = done; queue = after; hand = None }
put_to q p (Err reason) = record { answer = refusal_code reason; queue = q; hand = Some p }

-- the task of a hand becomes runnable in a queue
abbrev pub put : State → Option Contents → Outcome
put q None = record { answer = absent; queue = q; hand = None }
put q (Some p) = put_to q p (tried q p.task (placing.put q p.task (moves.sleeper_of p)))

abbrev pub put_asleep_where : State → Contents → Bool → Outcome
put_asleep_where q p here =
    if here then record { answer = present; queue = q; hand = Some p }
    else record { answer = done; queue = moves.put_asleep q p; hand = None }

-- the task of a hand falls asleep in a queue
abbrev pub put_asleep : State → Option Contents → Outcome
put_asleep q None = record { answer = absent; queue = q; hand = None }
put_asleep q (Some p) = put_asleep_where q p (is_here q p.task)

abbrev pub renumber_by : Option Contents → Option ℕ → ℤ × Option Contents
renumber_by h None = (invalid, h)
renumber_by None (Some task) = (absent, None)
renumber_by (Some p) (Some task) = (done, Some (record p { task = task }))

-- the task of a hand gets another number
abbrev pub renumber : Option Contents → ℕ → ℤ × Option Contents
renumber h number = renumber_by h (checked_number number)

-- the task in a hand
abbrev pub hand_task : Option Contents → ℤ
hand_task None = absent
hand_task (Some p) = pos p.task
