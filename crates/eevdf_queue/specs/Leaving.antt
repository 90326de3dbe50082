-- How a task leaves a queue, and what it takes along.
use Rattle.std.specs.Prelude.{◌≡◌, ℕ, ℤ, ◌-ℤ◌, if◌then◌else◌, Option, Some, None}
use Rattle.std.specs.Option.{option_map}
use Rattle.std.specs.FinMap as map
use Rattle.eevdf_queue.specs.{declared.entry.Entry.Entry, Sums.virtual_time, Candidate.is_running}
use Rattle.eevdf_queue.specs.State.{State, Sleeper, Contents}
use Rattle.eevdf_queue.specs.Lag.{kept_lag, cut, limit_of}

-- what a runnable task takes along when it leaves with a lag: its virtual runtime is its start
abbrev pub leaving : ℕ → ℤ → Entry → Contents
leaving task lag e = record { task = task; nice = e.nice; slice = e.slice; start = e.v; lag = lag }

-- the same with the lag that it has at a virtual time, within its limit
abbrev pub leaving_at : ℤ → ℕ → Entry → Contents
leaving_at time task e = leaving task (cut (time -ℤ e.v) (limit_of e)) e

-- what a runnable task takes along, and none of any other: it keeps the lag that it has while it is still here
abbrev pub carried : State → ℕ → Option Contents
carried q task = option_map (λ (e : Entry). leaving task (kept_lag q e) e) (map.get q.runnable task)

-- whoever runs, unless it is this task
abbrev pub stopped : Option ℕ → ℕ → Option ℕ
stopped running task = if is_running running task then None else running

-- the virtual runtime of the task that leaves is the time that stands
abbrev pub without_entry : State → ℕ → Option Entry → State
without_entry q task None = q
without_entry q task (Some e) =
    record q { runnable = map.remove q.runnable task; running = stopped q.running task; base = e.v }

-- the queue without a runnable task
abbrev pub leave : State → ℕ → State
leave q task = without_entry q task (map.get q.runnable task)

-- the same where the task runs, and else nothing
abbrev pub carried_running : State → ℕ → Option Contents
carried_running q task = if is_running q.running task then carried q task else None

abbrev pub leave_running : State → ℕ → State
leave_running q task = if is_running q.running task then leave q task else q

-- what a sleeping task takes along: the lag that it kept, to start at the queue's virtual time
abbrev pub leaving_asleep : State → ℕ → Sleeper → Contents
leaving_asleep q task s = record { task = task; nice = s.nice; slice = s.slice; start = virtual_time q; lag = s.lag }

abbrev pub carried_asleep : State → ℕ → Option Contents
carried_asleep q task = option_map (leaving_asleep q task) (map.get q.asleep task)

abbrev pub without_sleeper : State → ℕ → Option Sleeper → State
without_sleeper q task None = q
without_sleeper q task (Some s) = record q { asleep = map.remove q.asleep task; places = map.remove q.places task }

-- the queue without a sleeping task, and without its place where it dozes
abbrev pub leave_asleep : State → ℕ → State
leave_asleep q task = without_sleeper q task (map.get q.asleep task)

-- the queue with whoever ran waiting
abbrev pub nobody_runs : State → State
nobody_runs q = record q { running = None }

-- the task is neither runnable nor asleep here
pub record IsNowhere (q : State) (task : ℕ) : Type 0 where
  pub not_runnable : map.get q.runnable task ≡ None
  pub not_asleep : map.get q.asleep task ≡ None
