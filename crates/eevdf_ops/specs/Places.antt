-- Where the tasks of a machine stand.
use Rattle.std.specs.Prelude.{◌≡◌, ℕ, ◌+◌, ◌<◌, Bool, true, List, [], ◌∷◌, length, if◌then◌else◌}
use Rattle.std.specs.FinMap as map
use Rattle.eevdf_queue.specs.State.{State}
use Rattle.eevdf_ops.specs.{Setup.home_of, Setup.is_task, Machine.Machine, Machine.queue_at}

abbrev pub count : Bool → ℕ
count holds = if holds then 1 else 0

-- in how many places of a queue a task stands: runnable, and asleep
abbrev pub places_in : State → ℕ → ℕ
places_in q task = count (map.contains_key q.runnable task) + count (map.contains_key q.asleep task)

-- and of a whole machine
abbrev pub places : Machine → ℕ → ℕ
places [] task = 0
places (q ∷ m) task = places_in q task + places m task

-- each task that has a home stands in one place, no other number stands anywhere, and a task sleeps at its
-- home alone
pub record IsPlaced (homes : List ℕ) (m : Machine) : Type 0 where
  pub once : (task : ℕ) → places m task ≡ count (is_task homes task)
  pub at_home : (cpu task : ℕ) → map.contains_key (queue_at m cpu).asleep task ≡ true → home_of homes task ≡ cpu

-- each home is one of so many CPUs
abbrev pub AreCpus : ℕ → List ℕ → Type 0
AreCpus cpus homes = (task : ℕ) → task < length homes → home_of homes task < cpus
