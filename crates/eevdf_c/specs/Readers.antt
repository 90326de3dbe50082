-- What is read of a queue through C.
use Rattle.std.specs.Prelude.{ℕ, ℤ, pos, Bool, if◌then◌else◌, Option, Some, None}
use Rattle.std.specs.FinMap as map
use Rattle.eevdf_weight.specs.Limits.{checked_level, checked_slice}
use Rattle.eevdf_queue.specs.{State.State, declared.sleeper.Sleeper.Sleeper, Sums.total_weight, Numbers.checked_number, Trying.is_here}
use Rattle.eevdf_queue.specs.{Candidate.candidate_of, Lag.is_lag, Lag.lag_of}
use Rattle.eevdf_queue.specs.Placing as placing
use Rattle.eevdf_c.specs.{Codes.invalid, Found.found_code, Found.found_or, Turns.task_code}

abbrev pub len : State → ℤ
len q = pos (map.len q.runnable)

abbrev pub load : State → ℤ
load q = pos (total_weight q.runnable)

abbrev pub candidate : State → ℤ
candidate q = task_code (candidate_of q.runnable q.running)

-- 1 where it is so
abbrev pub flag : Bool → ℤ
flag so = if so then pos 1 else pos 0

abbrev pub is_asleep_by : State → Option ℕ → ℤ
is_asleep_by q None = invalid
is_asleep_by q (Some task) = flag (map.contains_key q.asleep task)

abbrev pub is_asleep : State → ℕ → ℤ
is_asleep q number = is_asleep_by q (checked_number number)

abbrev pub contains_by : State → Option ℕ → ℤ
contains_by q None = invalid
contains_by q (Some task) = flag (is_here q task)

abbrev pub contains : State → ℕ → ℤ
contains q number = contains_by q (checked_number number)

abbrev pub lag_by : State → Option ℕ → ℤ
lag_by q None = invalid
lag_by q (Some task) = found_code (lag_of q task)

-- what a question for a lag answers
abbrev pub lag : State → ℕ → ℤ
lag q number = lag_by q (checked_number number)

abbrev pub told_lag_by : State → ℤ → Option ℕ → ℤ
told_lag_by q other None = other
told_lag_by q other (Some task) = found_or other (lag_of q task)

-- what stands afterwards where the lag is to be written
abbrev pub told_lag : State → ℤ → ℕ → ℤ
told_lag q other number = told_lag_by q other (checked_number number)

-- a task that may be placed, where its lag is within its limit
abbrev pub checked_lag : ℤ → ℤ → ℕ → Option Sleeper
checked_lag lag level ns = if is_lag lag level ns then Some (record { lag = lag; nice = level; slice = ns }) else None

abbrev pub checked_sleeper : Option ℤ → Option ℕ → ℤ → Option Sleeper
checked_sleeper None ns lag = None
checked_sleeper (Some level) None lag = None
checked_sleeper (Some level) (Some ns) lag = checked_lag lag level ns

abbrev pub can_place_by : State → Option Sleeper → ℤ
can_place_by q None = invalid
can_place_by q (Some s) = flag (placing.can_place q s)

abbrev pub can_place : State → ℤ → ℕ → ℤ → ℤ
can_place q level ns lag = can_place_by q (checked_sleeper (checked_level level) (checked_slice ns) lag)
