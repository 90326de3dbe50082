-- What is kept of a sleeping task, as C reads it.
use Rattle.std.specs.Prelude.{ℕ, ℤ, Option, Some, None}
use Rattle.std.specs.Option.{option_map}
use Rattle.std.specs.FinMap as map
use Rattle.eevdf_queue.specs.{declared.sleeper.Sleeper.Sleeper, State.State, Numbers.checked_number}
pub use Rattle.eevdf_c.specs.declared.sleeper_out.SleeperOut.{SleeperOut}
use Rattle.eevdf_c.specs.{Codes.invalid, Found.found_code, Found.found_or}

abbrev pub in_numbers : Sleeper → SleeperOut
in_numbers s = record { lag = s.lag; nice = s.nice; slice_ns = s.slice }

abbrev pub sleeper_by : State → Option ℕ → ℤ
sleeper_by q None = invalid
sleeper_by q (Some task) = found_code (map.get q.asleep task)

-- what a question for a sleeping task answers
abbrev pub sleeper : State → ℕ → ℤ
sleeper q number = sleeper_by q (checked_number number)

abbrev pub told_sleeper_by : State → SleeperOut → Option ℕ → SleeperOut
told_sleeper_by q other None = other
told_sleeper_by q other (Some task) = found_or other (option_map in_numbers (map.get q.asleep task))

-- what stands afterwards where it is to be written
abbrev pub told_sleeper : State → SleeperOut → ℕ → SleeperOut
told_sleeper q other number = told_sleeper_by q other (checked_number number)
