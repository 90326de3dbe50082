-- The lag of a task: the service that it is owed, in virtual time.
use Rattle.std.specs.Prelude.{ℕ, Bool, nat_le, unsigned_abs, ℤ, pos, neg_ℤ, ◌-ℤ◌, Option, Some, None}
use Rattle.std.specs.Int.{int_min, int_max}
use Rattle.std.specs.FinMap as map
use Rattle.eevdf_weight.specs.{Weight.weight_of, Charge.lag_limit_of}
use Rattle.eevdf_queue.specs.{declared.entry.Entry.Entry, State.State, State.Sleeper, Sums.virtual_time}

-- a number cut to plus or minus a limit
abbrev pub cut : ℤ → ℕ → ℤ
cut z limit = int_max (neg_ℤ (pos limit)) (int_min z (pos limit))

-- whether a task of this nice level and slice may keep the lag
abbrev pub is_lag : ℤ → ℤ → ℕ → Bool
is_lag lag nice slice = nat_le (unsigned_abs lag) (lag_limit_of slice (weight_of nice))

abbrev pub limit_of : Entry → ℕ
limit_of e = lag_limit_of e.slice (weight_of e.nice)

-- the lag that a runnable task would keep if it left now
abbrev pub kept_lag : State → Entry → ℤ
kept_lag q e = cut (virtual_time q -ℤ e.v) (limit_of e)

abbrev pub sleeping_lag : Option Sleeper → Option ℤ
sleeping_lag None = None
sleeping_lag (Some s) = Some s.lag

abbrev pub lag_by : State → Option Entry → Option Sleeper → Option ℤ
lag_by q (Some e) s = Some (kept_lag q e)
lag_by q None s = sleeping_lag s

-- the lag of a runnable task, the kept lag of a sleeping one, and none of any other
abbrev pub lag_of : State → ℕ → Option ℤ
lag_of q task = lag_by q (map.get q.runnable task) (map.get q.asleep task)

-- how far from 0 the lag of a task that is here may be
abbrev pub limit_by : Option Entry → Option Sleeper → ℕ
limit_by (Some e) s = limit_of e
limit_by None (Some s) = lag_limit_of s.slice (weight_of s.nice)
limit_by None None = 0

abbrev pub limit_at : State → ℕ → ℕ
limit_at q task = limit_by (map.get q.runnable task) (map.get q.asleep task)
