-- A change of slice through C.
use Rattle.std.specs.Prelude.{ℕ, ℤ, Bool, if◌then◌else◌, Option, Some, None}
use Rattle.eevdf_weight.specs.Limits.{checked_slice}
use Rattle.eevdf_queue.specs.{State.State, Numbers.checked_number, Trying.is_here}
use Rattle.eevdf_queue.specs.SliceChange as changes
use Rattle.eevdf_c.specs.Codes.{done, absent, invalid}

abbrev pub here_code : Bool → ℤ
here_code here = if here then done else absent

abbrev pub set_slice_by : State → Option ℕ → Option ℕ → ℤ × State
set_slice_by q None slice = (invalid, q)
set_slice_by q (Some task) None = (invalid, q)
set_slice_by q (Some task) (Some slice) = (here_code (is_here q task), changes.set_slice q task slice)

-- what is answered, and the state afterwards
abbrev pub set_slice : State → ℕ → ℕ → ℤ × State
set_slice q number ns = set_slice_by q (checked_number number) (checked_slice ns)
