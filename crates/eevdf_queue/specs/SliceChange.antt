-- A change of a task's slice: the request that stands keeps its deadline, and a lag that is kept is cut to the new limit.
use Rattle.std.specs.Prelude.{ℕ, ℤ, Option, Some, None}
use Rattle.std.specs.FinMap as map
use Rattle.eevdf_weight.specs.{Weight.weight_of, Charge.lag_limit_of}
use Rattle.eevdf_queue.specs.{declared.entry.Entry.Entry, State.State, State.Sleeper, State.Contents, Lag.cut}

-- a lag that a task of this nice level and slice may keep
abbrev pub limited_lag : ℤ → ℤ → ℕ → ℤ
limited_lag lag nice slice = cut lag (lag_limit_of slice (weight_of nice))

-- what is kept of a sleeping task, and what a parcel carries, with another slice
abbrev pub sleeper_with_slice : Sleeper → ℕ → Sleeper
sleeper_with_slice s slice = record { lag = limited_lag s.lag s.nice slice; nice = s.nice; slice = slice }

abbrev pub contents_with_slice : Contents → ℕ → Contents
contents_with_slice p slice = record p { slice = slice; lag = limited_lag p.lag p.nice slice }

abbrev pub set_sleeper_slice : State → ℕ → ℕ → Option Sleeper → State
set_sleeper_slice q task slice None = q
set_sleeper_slice q task slice (Some s) = record q { asleep = map.insert q.asleep task (sleeper_with_slice s slice) }

abbrev pub set_entry_slice : State → ℕ → ℕ → Option Entry → State
set_entry_slice q task slice None = set_sleeper_slice q task slice (map.get q.asleep task)
set_entry_slice q task slice (Some e) = record q { runnable = map.insert q.runnable task (record e { slice = slice }) }

-- the queue afterwards; it stays as it is where the task isn't here
abbrev pub set_slice : State → ℕ → ℕ → State
set_slice q task slice = set_entry_slice q task slice (map.get q.runnable task)
