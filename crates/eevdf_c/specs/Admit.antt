-- How a task comes into a queue through C.
use Rattle.std.specs.Prelude.{◌≡◌, ◌⊎◌, ℕ, ℤ, pos, Bool, true, false, int_le, ◌&&◌, if◌then◌else◌, Option, Some, None, Result, Ok, Err}
use Rattle.eevdf_weight.specs.Limits.{checked_level, checked_slice, is_in_range}
use Rattle.eevdf_queue.specs.{State.State, State.Contents, Numbers.checked_number, Trying.tried}
use Rattle.eevdf_queue.specs.{declared.refusal.Refusal.Refusal, declared.refusal.Refusal.TheVariants.Present}
use Rattle.eevdf_queue.specs.declared.refusal.Refusal.TheVariants.{Range}
use Rattle.eevdf_queue.specs.Moves as moves
use Rattle.eevdf_c.specs.Codes.{done, present, invalid, no_memory, out_of_range}

-- a task that starts without a lag
abbrev pub contents : ℕ → ℤ → ℕ → ℤ → Contents
contents task nice slice start = record { task = task; nice = nice; slice = slice; start = start; lag = pos 0 }

abbrev pub contents_by : Option ℕ → Option ℤ → Option ℕ → Bool → ℤ → Option Contents
contents_by None nice slice fits start = None
contents_by (Some task) None slice fits start = None
contents_by (Some task) (Some nice) None fits start = None
contents_by (Some task) (Some nice) (Some slice) false start = None
contents_by (Some task) (Some nice) (Some slice) true start = Some (contents task nice slice start)

-- a task as its numbers give it, where each is in its range
abbrev pub checked_contents : ℕ → ℤ → ℕ → ℤ → Option Contents
checked_contents number level ns start =
    contents_by (checked_number number) (checked_level level) (checked_slice ns) (is_in_range start) start

abbrev pub refusal_code : Refusal → ℤ
refusal_code Present = present
refusal_code Range = out_of_range

abbrev pub joined : State → Result State Refusal → ℤ × State
joined q (Ok after) = (done, after)
joined q (Err reason) = (refusal_code reason, q)

abbrev pub admit_by : State → Option Contents → ℤ × State
admit_by q None = (invalid, q)
admit_by q (Some p) = joined q (tried q p.task (moves.admit q p))

-- what is answered where memory suffices, and the state afterwards
abbrev pub admit : State → ℕ → ℤ → ℕ → ℤ → ℤ × State
admit q number level ns start = admit_by q (checked_contents number level ns start)

-- memory is asked for once the numbers are in their ranges and the task is known not to be here
abbrev pub AsksForMemory : ℤ → Type 0
AsksForMemory code = (code ≡ done) ⊎ (code ≡ out_of_range)

-- the code, or that memory lacks
abbrev pub IsAnswer : ℤ → ℤ → Type 0
IsAnswer code answer = (answer ≡ code) ⊎ ((answer ≡ no_memory) × AsksForMemory code)

-- the state after an answer: as it was where memory lacks
abbrev pub after_answer : State → ℤ × State → ℤ → State
after_answer q outcome answer = if int_le answer no_memory && int_le no_memory answer then q else outcome.1
