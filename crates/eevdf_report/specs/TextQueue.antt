-- The texts of one queue's tasks.
use Rattle.std.specs.Prelude.{ℕ, ℤ, Bool, true, false, List, [], ◌++◌, codes, decimal, Option, Some, None}
use Rattle.std.specs.{Fmt.signed_decimal, List.flat_map}
use Rattle.std.specs.FinMap as finite
use Rattle.eevdf_queue.specs.{declared.entry.Entry.Entry, declared.sleeper.Sleeper.Sleeper, State.State, Sums.total_weight, Sums.virtual_time}
use Rattle.eevdf_queue.specs.{Lag.kept_lag, Candidate.is_running, Doze.place_of}
use Rattle.eevdf_report.specs.Text.{as_line, task_text}

abbrev pub load_line : ℕ → ℤ → List ℕ
load_line load floor = as_line (codes "load " ++ decimal load ++ codes " floor " ++ signed_decimal floor)

unfoldable pub running_text : Bool → List ℕ
running_text true = codes " running"
running_text false = []

unfoldable pub times_text : ℤ → ℤ → List ℕ
times_text v d = codes " v " ++ signed_decimal v ++ codes " d " ++ signed_decimal d

unfoldable pub lag_text : ℤ → List ℕ
lag_text lag = codes " lag " ++ signed_decimal lag

-- a runnable task
abbrev pub task_line : ℕ → Entry → ℤ → Bool → List ℕ
task_line task e lag runs = as_line (task_text task ++ times_text e.v e.d ++ lag_text lag ++ running_text runs)

-- the place of a task that dozes; any other has none
unfoldable pub place_text : Option ℤ → List ℕ
place_text None = []
place_text (Some place) = codes " place " ++ signed_decimal place

-- a sleeping task
abbrev pub asleep_line : ℕ → ℤ → Option ℤ → List ℕ
asleep_line task lag place = as_line (codes "asleep " ++ decimal task ++ lag_text lag ++ place_text place)

-- one runnable task, with the lag that it would keep
abbrev pub runnable_line : State → ℕ × Entry → List ℕ
runnable_line q a = task_line a.0 a.1 (kept_lag q a.1) (is_running q.running a.0)

-- one sleeping task, with the lag that it keeps, and its place in the virtual times of now where it dozes
abbrev pub sleeper_line : State → ℕ × Sleeper → List ℕ
sleeper_line q a = asleep_line a.0 a.1.lag (place_of q a.0)

-- the runnable tasks in ascending number
abbrev pub task_lines : State → List ℕ
task_lines q = flat_map (runnable_line q) (finite.entries q.runnable)

-- the sleeping tasks in ascending number
abbrev pub asleep_lines : State → List ℕ
asleep_lines q = flat_map (sleeper_line q) (finite.entries q.asleep)

-- the load, the virtual time and the tasks
abbrev pub queue_text : State → List ℕ
queue_text q = load_line (total_weight q.runnable) (virtual_time q) ++ task_lines q ++ asleep_lines q
