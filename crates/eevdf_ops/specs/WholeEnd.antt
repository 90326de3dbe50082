-- An end: a runnable task leaves its CPU and falls asleep at its home without a lag.
use Rattle.std.specs.Prelude.{ℕ, Option}
use Rattle.std.specs.Option.{option_map}
use Rattle.eevdf_queue.specs.{State.State, State.Contents, Leaving.carried, Attributes.without_lag}

-- what a task that ends takes to its home, and none of one that isn't runnable
abbrev pub ending : State → ℕ → Option Contents
ending q task = option_map without_lag (carried q task)
