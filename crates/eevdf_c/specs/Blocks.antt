-- Tasks in blocks of memory that the caller gives, and gets back.
use Rattle.std.specs.Prelude.{ℕ, ℤ, Bool, true, false, if◌then◌else◌, Option, Some, None, Result, Ok, Err}
use Rattle.eevdf_queue.specs.{State.State, State.Contents, Numbers.checked_number, Trying.tried, Trying.is_here}
use Rattle.eevdf_queue.specs.declared.refusal.Refusal.{Refusal}
use Rattle.eevdf_queue.specs.Moves as moves
use Rattle.eevdf_c.specs.Codes.{done, absent, no_memory, busy, present, invalid}
use Rattle.eevdf_c.specs.Admit.{checked_contents, refusal_code}
use Rattle.eevdf_c.specs.Leaving.{carried_out, gone}

-- what a call answers that may take a block or give one, the queue afterwards, and whether the caller has a block then
pub record Outcome : Type 0 where
  pub answer : ℤ
  pub queue : State
  pub block : Bool

abbrev pub joined : State → Result State Refusal → Outcome
joined q (Ok after) = record { answer = done; queue = after; block = false }
joined q (Err reason) = record { answer = refusal_code reason; queue = q; block = true }

-- a task becomes runnable, and has the block; where it can't, the caller keeps it
abbrev pub admit_given : State → Contents → Outcome
admit_given q p = joined q (tried q p.task (moves.admit q p))

abbrev pub admit_with : State → Contents → Bool → Outcome
admit_with q p true = admit_given q p
admit_with q p false = record { answer = no_memory; queue = q; block = false }

abbrev pub admit_by : State → Bool → Option Contents → Outcome
admit_by q has None = record { answer = invalid; queue = q; block = has }
admit_by q has (Some p) =
    if is_here q p.task then record { answer = present; queue = q; block = has } else admit_with q p has

-- a task as its numbers give it becomes runnable in a block, where the caller has one
abbrev pub admit : State → Bool → ℕ → ℤ → ℕ → ℤ → Outcome
admit q has number level ns start = admit_by q has (checked_contents number level ns start)

abbrev pub end_with : State → Option Contents → State → Outcome
end_with q None after = record { answer = absent; queue = q; block = false }
end_with q (Some p) after = record { answer = done; queue = after; block = true }

abbrev pub end_by : State → Bool → Option ℕ → Outcome
end_by q has None = record { answer = invalid; queue = q; block = has }
end_by q true (Some task) = record { answer = busy; queue = q; block = true }
end_by q false (Some task) = end_with q (carried_out q task) (gone q task)

-- a task ends, and the caller has its block
abbrev pub end : State → Bool → ℕ → Outcome
end q has number = end_by q has (checked_number number)

-- what a call answers that ends the task of a hand, the hand afterwards, and whether the caller has a block then
pub record HandOutcome : Type 0 where
  pub answer : ℤ
  pub hand : Option Contents
  pub block : Bool

abbrev pub end_held_with : Option Contents → HandOutcome
end_held_with None = record { answer = absent; hand = None; block = false }
end_held_with (Some p) = record { answer = done; hand = None; block = true }

-- the task of a hand ends, and the caller has its block
abbrev pub end_held : Option Contents → Bool → HandOutcome
end_held h true = record { answer = busy; hand = h; block = true }
end_held h false = end_held_with h
