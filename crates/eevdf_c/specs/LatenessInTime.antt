-- How late requests can be in time, through C.
use Rattle.std.specs.Prelude.{ℤ, Option}
use Rattle.eevdf_queue.specs.{State.State, Sums.total_weight}
use Rattle.eevdf_fair_queue.specs.{declared.bounds.Bounds.Bounds, InTime.in_time, Lateness.lateness_bound}
use Rattle.eevdf_c.specs.{Found.found_or, Shares.checked_time, Shares.told_code}

-- the bound in nanoseconds, where 64 bits with a sign have it
abbrev pub bound : Bounds → State → Option ℤ
bound b q = checked_time (in_time (lateness_bound q b) (total_weight q.runnable))

-- what a question for it answers
abbrev pub answer : Bounds → State → ℤ
answer b q = told_code (bound b q)

-- what stands afterwards where it is to be written
abbrev pub told : Bounds → State → ℤ → ℤ
told b q other = found_or other (bound b q)
