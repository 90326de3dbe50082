-- A wake through C.
use Rattle.std.specs.Prelude.{ℕ, ℤ, Bool, if◌then◌else◌, Option, Some, None}
use Rattle.std.specs.FinMap as map
use Rattle.eevdf_queue.specs.{State.State, Numbers.checked_number, declared.answers.WakeAnswer.WakeAnswer}
use Rattle.eevdf_queue.specs.Wake as wakes
use Rattle.eevdf_queue.specs.declared.answers.WakeAnswer.TheVariants.{Woken, Awake, Range}
use Rattle.eevdf_c.specs.Codes.{done, absent, present, invalid, out_of_range}

-- a task that doesn't sleep here is runnable here or isn't here at all
abbrev pub wake_code : WakeAnswer → Bool → ℤ
wake_code Woken runnable = done
wake_code Awake runnable = if runnable then present else absent
wake_code Range runnable = out_of_range

abbrev pub wake_by : State → Option ℕ → ℤ × State
wake_by q None = (invalid, q)
wake_by q (Some task) = (wake_code (wakes.wake q task).0 (map.contains_key q.runnable task), (wakes.wake q task).1)

-- what is answered, and the state afterwards
abbrev pub wake : State → ℕ → ℤ × State
wake q number = wake_by q (checked_number number)
