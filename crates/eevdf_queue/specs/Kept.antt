-- What every queue keeps of its tasks.
use Rattle.std.specs.Prelude.{◌≡◌, ℕ, ◌<◌, ℤ, ◌≤ℤ◌, true, Option, Some, None}
use Rattle.std.specs.Ordering.{nat_cmp}
use Rattle.std.specs.FinMap as map
use Rattle.eevdf_queue.specs.{declared.entry.Entry.Entry, State.State, State.Sleeper, Sums.Tasks, Sums.virtual_time}
use Rattle.eevdf_queue.specs.{Moves.is_entry_in_range, Lag.is_lag, Numbers.number_limit, Rebase.is_shift}
use Rattle.eevdf_weight.specs.Limits.{is_in_range}

-- numbers are below the limit, virtual runtimes and deadlines in range
abbrev pub AreInRange : Tasks → Type 0
AreInRange tasks =
    (t : ℕ) (e : Entry) → map.get tasks t ≡ Some e → (t < number_limit) × (is_entry_in_range e ≡ true)

-- numbers are below the limit, lags within the limits of their tasks
abbrev pub AreLimited : map.FinMap nat_cmp Sleeper → Type 0
AreLimited asleep =
    (t : ℕ) (s : Sleeper) → map.get asleep t ≡ Some s → (t < number_limit) × (is_lag s.lag s.nice s.slice ≡ true)

-- whoever runs is runnable
abbrev pub RunnerIsHere : Tasks → Option ℕ → Type 0
RunnerIsHere tasks None = Unit {0}
RunnerIsHere tasks (Some t) = map.contains_key tasks t ≡ true

-- no task is both runnable and asleep
abbrev pub AreApart : Tasks → map.FinMap nat_cmp Sleeper → Type 0
AreApart tasks asleep = (t : ℕ) → map.contains_key tasks t ≡ true → map.get asleep t ≡ None

-- only tasks that sleep have a place
abbrev pub AreOfSleepers : map.FinMap nat_cmp ℤ → map.FinMap nat_cmp Sleeper → Type 0
AreOfSleepers places asleep = (t : ℕ) → map.contains_key places t ≡ true → map.contains_key asleep t ≡ true

-- no runnable task is past its own deadline
abbrev pub NoneIsPastDue : Tasks → Type 0
NoneIsPastDue tasks = (t : ℕ) (e : Entry) → map.get tasks t ≡ Some e → e.v ≤ℤ e.d

-- what the parts of a queue keep among each other, besides what its maps keep
pub record AreSound (tasks : Tasks) (running : Option ℕ) (asleep : map.FinMap nat_cmp Sleeper) (base : ℤ) : Type 0 where
  pub runs : RunnerIsHere tasks running
  pub apart : AreApart tasks asleep
  pub based : is_in_range base ≡ true

abbrev pub IsSound : State → Type 0
IsSound q = AreSound q.runnable q.running q.asleep q.base

-- what every queue keeps
pub record IsKept (q : State) : Type 0 where
  pub sound : IsSound q
  pub in_range : AreInRange q.runnable
  pub due : NoneIsPastDue q.runnable
  pub limited : AreLimited q.asleep
  pub placed : AreOfSleepers q.places q.asleep
  pub timed : is_in_range (virtual_time q) ≡ true
  pub shifted : is_shift q.shift ≡ true
