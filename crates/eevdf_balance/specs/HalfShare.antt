-- What share of the ideal one a task has on its CPU, where the least loaded CPU would take neither of two tasks of that CPU.
use Rattle.std.specs.Prelude.{◌≡◌, ◌≢◌, ℕ, ◌+◌, ◌*◌, ◌<◌, ◌≤◌, min, List, [], ◌∷◌, length, Some}
use Rattle.std.specs.FinMap.{get, entries}
use Rattle.eevdf_weight.specs.Weight.{weight_of}
use Rattle.eevdf_queue.specs.declared.entry.Entry.{Entry}
use Rattle.eevdf_ops.specs.{Machine.Machine, Machine.queue_at}
use Rattle.eevdf_balance.specs.{Crowds.IsCrowded, Squares.load_at}

-- an ideal machine runs all tasks at once, each in proportion to its weight, but none on more than one CPU: of a CPU's time, which has so
-- many `parts`, a task has `rate` parts for each unit of its weight, and all of them at most
abbrev pub ideal : ℕ → ℕ → Entry → ℕ
ideal rate parts e = min parts (weight_of e.nice * rate)

-- the ideal shares of tasks together
abbrev pub ideals : ℕ → ℕ → List (ℕ × Entry) → ℕ
ideals rate parts [] = 0
ideals rate parts (e ∷ es) = ideal rate parts e.1 + ideals rate parts es

-- and of all tasks of a machine
abbrev pub ideals_of_all : ℕ → ℕ → Machine → ℕ
ideals_of_all rate parts [] = 0
ideals_of_all rate parts (q ∷ m) = ideals rate parts (entries q.runnable) + ideals_of_all rate parts m

-- the rate at which they use up the time of all CPUs
pub record IsIdealRate (m : Machine) (rate parts : ℕ) : Type 0 where
  pub some : 1 ≤ parts
  pub all : ideals_of_all rate parts m ≡ length m * parts

-- with this task of a source a CPU would be loaded no less than the source is, so that it doesn't take it by a pull
pub record IsRefused (m : Machine) (cpu source task : ℕ) : Type 0 where
  pub entry : Entry
  pub here : get (queue_at m source).runnable task ≡ Some entry
  pub no_lighter : load_at m source ≤ load_at m cpu + weight_of entry.nice

-- the least loaded CPU would take neither of two tasks of a source
pub record RefusesTwo (m : Machine) (cpu source : ℕ) : Type 0 where
  pub least : (other : ℕ) → other < length m → load_at m cpu ≤ load_at m other
  pub first : ℕ
  pub second : ℕ
  pub apart : first ≢ second
  pub refused_first : IsRefused m cpu source first
  pub refused_second : IsRefused m cpu source second

-- on a CPU of this load a task has the share `weight / load`: it is at least this part, `part / of`, of its ideal share
abbrev pub HasOfIdeal : ℕ → ℕ → ℕ → ℕ → ℕ → Entry → Type 0
HasOfIdeal part of load rate parts e = part * (load * ideal rate parts e) ≤ of * (parts * weight_of e.nice)

-- then each task of the source has there at least a part, by the number of CPUs, of its ideal share
abbrev pub BalancedGivesAtLeast : (ℕ → ℕ) → (ℕ → ℕ) → Type 0
BalancedGivesAtLeast part of =
    (m : Machine) (rate parts cpu source task : ℕ) (e : Entry) → IsIdealRate m rate parts → RefusesTwo m cpu source →
    get (queue_at m source).runnable task ≡ Some e → HasOfIdeal (part (length m)) (of (length m)) (load_at m source) rate parts e

-- the least loaded CPU, one of the machine's, would take neither of two tasks of each CPU that is crowded
pub record RefusesTwoOfEach (m : Machine) (cpu : ℕ) : Type 0 where
  pub there : cpu < length m
  pub least : (other : ℕ) → other < length m → load_at m cpu ≤ load_at m other
  pub each : (source : ℕ) → IsCrowded m source → RefusesTwo m cpu source

-- on a CPU of this load a task's share is at most `part / of` of its ideal share
abbrev pub HasAtMostOfIdeal : ℕ → ℕ → ℕ → ℕ → ℕ → Entry → Type 0
HasAtMostOfIdeal part of load rate parts e = of * (parts * weight_of e.nice) ≤ part * (load * ideal rate parts e)

-- then each task of the machine has at most a part, by the number of CPUs, of its ideal share
abbrev pub BalancedGivesAtMost : (ℕ → ℕ) → (ℕ → ℕ) → Type 0
BalancedGivesAtMost part of =
    (m : Machine) (rate parts cpu source task : ℕ) (e : Entry) → IsIdealRate m rate parts → RefusesTwoOfEach m cpu →
    get (queue_at m source).runnable task ≡ Some e → HasAtMostOfIdeal (part (length m)) (of (length m)) (load_at m source) rate parts e
