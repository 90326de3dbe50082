-- Tasks in a list, and the maps that such a list stands for.
use Rattle.std.specs.Prelude.{◌≡◌, ℕ, ◌<◌, ◌==◌, Bool, true, pos, List, [], ◌∷◌, if◌then◌else◌, Option, Some, None}
use Rattle.std.specs.Ordering.{nat_cmp}
use Rattle.std.specs.FinMap as map
use Rattle.eevdf_queue.specs.{declared.entry.Entry.Entry, declared.task.Task.Task, State.Sleeper, State.Contents}
use Rattle.eevdf_queue.specs.{Moves.is_entry_in_range, Lag.is_lag, Numbers.number_limit}

-- the first task; in an empty list, which no node has, the task 0 with zeros
abbrev pub first_task : List Task → Task
first_task [] =
    record { number = 0; entry = record { v = pos 0; d = pos 0; nice = pos 0; slice = 0 }; lag = pos 0 }
first_task (t ∷ ts) = t

-- the first that passes a test
abbrev pub first_with : (Task → Bool) → List Task → Option Task
first_with test [] = None
first_with test (t ∷ ts) = if test t then Some t else first_with test ts

abbrev pub has_number : ℕ → Task → Bool
has_number q t = t.number == q

-- the first task of a number
abbrev pub find_task : ℕ → List Task → Option Task
find_task q = first_with (has_number q)

-- numbers differ
abbrev pub DifferInNumber : List Task → Type 0
DifferInNumber [] = Unit {0}
DifferInNumber (t ∷ ts) = (find_task t.number ts ≡ None) × DifferInNumber ts

-- the tasks with another entry at the first of a number
abbrev pub set_entry : ℕ → Entry → List Task → List Task
set_entry q e [] = []
set_entry q e (t ∷ ts) = if t.number == q then record t { entry = e } ∷ ts else t ∷ set_entry q e ts

-- the entries by number
abbrev pub entries_of : List Task → List (ℕ × Entry)
entries_of [] = []
entries_of (t ∷ ts) = (t.number, t.entry) ∷ entries_of ts

-- the map from their numbers to their entries
unfoldable pub runnable_in : List Task → map.FinMap nat_cmp Entry
runnable_in ts = map.from_entries (entries_of ts)

abbrev pub sleeper_in : Task → Sleeper
sleeper_in t = record { lag = t.lag; nice = t.entry.nice; slice = t.entry.slice }

-- what a parcel with this task carries
abbrev pub contents_of : Task → Contents
contents_of t =
    record { task = t.number; nice = t.entry.nice; slice = t.entry.slice; start = t.entry.v; lag = t.lag }

-- numbers differ and are below the limit, and each virtual runtime and deadline is in range
abbrev pub AreRunnable : List Task → Type 0
AreRunnable [] = Unit {0}
AreRunnable (t ∷ ts) =
    (find_task t.number ts ≡ None) × (t.number < number_limit) × (is_entry_in_range t.entry ≡ true) × AreRunnable ts

-- one task, whose lag is within its limit
pub record IsLone (ts : List Task) : Type 0 where
  pub alone : ts ≡ first_task ts ∷ []
  pub limited : is_lag (first_task ts).lag (first_task ts).entry.nice (first_task ts).entry.slice ≡ true
