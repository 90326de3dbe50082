-- What turns leave as it is.
use Rattle.std.specs.Prelude.{◌≡◌, ℕ, List, Option, Some}
use Rattle.std.specs.FinMap.{get, len}
use Rattle.eevdf_queue.specs.{declared.entry.Entry.Entry, State.State, Sums.Tasks, Sums.total_weight}
use Rattle.eevdf_fairness.specs.Turns.{Turn, after_turns}

-- the task is still there, with its nice level and its slice
pub record IsStillThere (e : Entry) (now : Option Entry) : Type 0 where
  pub entry : Entry
  pub here : now ≡ Some entry
  pub same_nice : entry.nice ≡ e.nice
  pub same_slice : entry.slice ≡ e.slice

pub record HaveStayed (before after : Tasks) : Type 0 where
  pub weight : total_weight after ≡ total_weight before
  pub count : len after ≡ len before
  pub there : (t : ℕ) (e : Entry) → get before t ≡ Some e → IsStillThere e (get after t)

-- no turn takes a task in or out, or changes its nice level or its slice
abbrev pub TurnsKeepTasks : Type 0
TurnsKeepTasks = (q : State) (turns : List Turn) → HaveStayed q.runnable (after_turns q turns).runnable
