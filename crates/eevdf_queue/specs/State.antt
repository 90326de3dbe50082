-- What a queue keeps, as contracts see it.
use Rattle.std.specs.Prelude.{ℕ, ℤ, pos, Option, None}
use Rattle.std.specs.Ordering.{nat_cmp}
use Rattle.std.specs.FinMap as map
use Rattle.eevdf_queue.specs.declared.entry.Entry.{Entry}
-- what is kept of a sleeping task: its lag, its nice level and its slice
pub use Rattle.eevdf_queue.specs.declared.sleeper.Sleeper.{Sleeper}

-- the runnable tasks and the sleeping ones by their numbers, who runs, and the virtual time that stands
-- while nothing is runnable; then what the tasks that doze are held to: their places, each the virtual runtime at which
-- its task left plus the shift of then, and the shift, the sum of what rebases have answered
pub record State : Type 0 where
  pub runnable : map.FinMap nat_cmp Entry
  pub running : Option ℕ
  pub asleep : map.FinMap nat_cmp Sleeper
  pub base : ℤ
  pub places : map.FinMap nat_cmp ℤ
  pub shift : ℤ

-- the sleeping tasks as they stand in their slots: what is kept of each, and the places of those that doze
pub record TasksAsleep : Type 0 where
  pub tasks : map.FinMap nat_cmp Sleeper
  pub places : map.FinMap nat_cmp ℤ

-- the runnable tasks in their tree: their entries by number, and how deep the node of each stands, where the root's depth
-- is 1
pub record TasksInTree : Type 0 where
  pub tasks : map.FinMap nat_cmp Entry
  pub depths : map.FinMap nat_cmp ℕ

-- what is seen of a queue: its state, and beside it how deep the node of its last pick stood and, of its tree, how deep the node
-- of each runnable task stands
pub record View : Type 0 where
  pub state : State
  pub pick_depth : ℕ
  pub depths : map.FinMap nat_cmp ℕ

abbrev pub empty_state : State
empty_state = record { runnable = map.empty; running = None; asleep = map.empty; base = pos 0; places = map.empty; shift = pos 0 }

-- what a parcel carries: a task, the virtual runtime that it starts at, and the lag that it has
pub record Contents : Type 0 where
  pub task : ℕ
  pub nice : ℤ
  pub slice : ℕ
  pub start : ℤ
  pub lag : ℤ
