-- A change of nice level and slice at once through C, and a sleeping task that begins anew.
use Rattle.std.specs.Prelude.{ℕ, ℤ, Bool, if◌then◌else◌, Option, Some, None}
use Rattle.std.specs.FinMap as map
use Rattle.eevdf_weight.specs.Limits.{checked_level, checked_slice}
use Rattle.eevdf_queue.specs.{State.State, Numbers.checked_number, declared.answers.SetAnswer.SetAnswer}
use Rattle.eevdf_queue.specs.Attributes as attributes
use Rattle.eevdf_queue.specs.declared.answers.SetAnswer.TheVariants.{Set, NotHere, Range}
use Rattle.eevdf_c.specs.Codes.{done, absent, present, invalid, out_of_range}

abbrev pub set_code : SetAnswer → ℤ
set_code Set = done
set_code NotHere = absent
set_code Range = out_of_range

abbrev pub set_by : State → Option ℕ → Option ℤ → Option ℕ → ℤ × State
set_by q None level slice = (invalid, q)
set_by q (Some task) None slice = (invalid, q)
set_by q (Some task) (Some level) None = (invalid, q)
set_by q (Some task) (Some level) (Some slice) = (set_code (attributes.set q task level slice).0, (attributes.set q task level slice).1)

-- a task gets another nice level and slice: what is answered, and the state afterwards
abbrev pub set : State → ℕ → ℤ → ℕ → ℤ × State
set q number level ns = set_by q (checked_number number) (checked_level level) (checked_slice ns)

-- a task that doesn't sleep here is runnable here or isn't here at all
abbrev pub begin_code : Bool → Bool → ℤ
begin_code asleep runnable = if asleep then done else if runnable then present else absent

abbrev pub begin_by : State → Option ℕ → Option ℤ → Option ℕ → ℤ × State
begin_by q None level slice = (invalid, q)
begin_by q (Some task) None slice = (invalid, q)
begin_by q (Some task) (Some level) None = (invalid, q)
begin_by q (Some task) (Some level) (Some slice) =
    (begin_code (map.contains_key q.asleep task) (map.contains_key q.runnable task), attributes.begin q task level slice)

-- a sleeping task begins anew: what is answered, and the state afterwards
abbrev pub begin : State → ℕ → ℤ → ℕ → ℤ × State
begin q number level ns = begin_by q (checked_number number) (checked_level level) (checked_slice ns)
