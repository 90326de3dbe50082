-- The place of a task that dozes, as C reads it: in two halves of 64 bits.
use Rattle.std.specs.Prelude.{ℕ, ℤ, pos, ◌+ℤ◌, ◌*ℤ◌, ◌^◌, unsigned_abs, Option, Some, None}
use Rattle.std.specs.{Option.option_map, Int.int_div_euclid, Int.int_rem_euclid}
use Rattle.eevdf_queue.specs.{State.State, Numbers.checked_number, Doze.place_of}
pub use Rattle.eevdf_c.specs.declared.place_out.PlaceOut.{PlaceOut}
use Rattle.eevdf_c.specs.{Codes.invalid, Found.found_code, Found.found_or}

-- how many numbers the lower half has
abbrev pub unit : ℕ
unit = 2 ^ 64

-- the number that two halves make
abbrev pub value : PlaceOut → ℤ
value p = (p.high *ℤ pos unit) +ℤ pos p.low

abbrev pub in_halves : ℤ → PlaceOut
in_halves place = record { high = int_div_euclid place (pos unit); low = unsigned_abs (int_rem_euclid place (pos unit)) }

abbrev pub place_by : State → Option ℕ → ℤ
place_by q None = invalid
place_by q (Some task) = found_code (place_of q task)

-- what a question for a place answers
abbrev pub place : State → ℕ → ℤ
place q number = place_by q (checked_number number)

abbrev pub told_place_by : State → PlaceOut → Option ℕ → PlaceOut
told_place_by q other None = other
told_place_by q other (Some task) = found_or other (option_map in_halves (place_of q task))

-- what stands afterwards where the place is to be written
abbrev pub told_place : State → PlaceOut → ℕ → PlaceOut
told_place q other number = told_place_by q other (checked_number number)
