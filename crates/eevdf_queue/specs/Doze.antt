-- A doze: the running task falls asleep, keeps no debt, and is held to the virtual runtime at which it left.
use Rattle.std.specs.Prelude.{ℕ, ℤ, pos, ◌+ℤ◌, ◌-ℤ◌, Option, Some, None}
use Rattle.std.specs.{Int.int_max, Option.option_map}
use Rattle.std.specs.FinMap as map
use Rattle.eevdf_queue.specs.State.{State, Sleeper, Contents}
use Rattle.eevdf_queue.specs.Leaving.{carried_running, leave_running}

-- what is kept of a task that dozes off: a debt is not, since its place holds it to that
abbrev pub dozing : Contents → Sleeper
dozing p = record { lag = int_max (pos 0) p.lag; nice = p.nice; slice = p.slice }

-- the queue with the task of a parcel asleep at the virtual runtime at which it left
abbrev pub put_dozing : State → Contents → State
put_dozing q p = record q { asleep = map.insert q.asleep p.task (dozing p); places = map.insert q.places p.task (p.start +ℤ q.shift) }

abbrev pub dozed : State → ℕ → Option Contents → State
dozed q task None = q
dozed q task (Some p) = put_dozing (leave_running q task) p

-- the deed: the queue afterwards, as it was where the task doesn't run
abbrev pub doze : State → ℕ → State
doze q task = dozed q task (carried_running q task)

-- the lag that the task leaves with, where it runs
abbrev pub dozed_lag : State → ℕ → Option ℤ
dozed_lag q task = option_map (λ (p : Contents). p.lag) (carried_running q task)

-- the place of a task that dozes, in the virtual times of now, and none of any other
abbrev pub place_of : State → ℕ → Option ℤ
place_of q task = option_map (λ (place : ℤ). place -ℤ q.shift) (map.get q.places task)
