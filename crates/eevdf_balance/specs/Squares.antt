-- How far from level the loads of a machine are: the sum of their squares, which each pull lowers.
use Rattle.std.specs.Prelude.{◌≡◌, ℕ, ◌+◌, ◌-◌, ◌*◌, ◌<◌, ◌≤◌, Bool, true, false, List, [], ◌∷◌, length, is_some, Some}
use Rattle.std.specs.{FinMap.get, List.AllByRecursion}
use Rattle.eevdf_weight.specs.Weight.{weight_of}
use Rattle.eevdf_queue.specs.declared.entry.Entry.{Entry}
use Rattle.eevdf_ops.specs.{declared.deeds.Deed.Deed, declared.deeds.Line.Line}
use Rattle.eevdf_ops.specs.declared.deeds.Deed.TheVariants.{Tick, Pick, Yield, Pull, Rebase}
use Rattle.eevdf_ops.specs.{Laws.Pulls, Machine.Machine, Machine.queue_at, Setup.is_allowed, WholePull.load_of}
use Rattle.eevdf_ops.specs.{Places.AreCpus, Places.IsPlaced, Places.count, Whole.whole, Whole.lines_of, Whole.machine_after}
use Rattle.eevdf_balance.specs.Sweeps.{taken}

-- the load of a CPU: the weights of its runnable tasks
abbrev pub load_at : Machine → ℕ → ℕ
load_at m cpu = load_of (queue_at m cpu)

-- the sum of the squares of all loads
abbrev pub sum_of_squares : Machine → ℕ
sum_of_squares [] = 0
sum_of_squares (q ∷ m) = load_of q * load_of q + sum_of_squares m

-- a pull has taken a task from a source, which is still loaded more than the CPU with the task: the sum is lower by twice the task's
-- weight times what is between these two, and by a number at least
pub record LowersSquares (by : ℕ) (homes : List ℕ) (m : Machine) (cpu source task : ℕ) : Type 0 where
  pub entry : Entry
  pub here : get (queue_at m source).runnable task ≡ Some entry
  pub lighter : load_at m cpu + weight_of entry.nice < load_at m source
  pub exact : sum_of_squares (whole homes (Pull cpu source) m).1
      + 2 * (weight_of entry.nice * (load_at m source - (load_at m cpu + weight_of entry.nice)))
      ≡ sum_of_squares m
  pub least : sum_of_squares (whole homes (Pull cpu source) m).1 + by ≤ sum_of_squares m

-- on a machine where each task stands in one place, a pull that takes a task lowers the sum, by so much at least
abbrev pub PullLowersSquares : ℕ → Type 0
PullLowersSquares by =
    (homes : List ℕ) (m : Machine) (cpu source task : ℕ) → Pulls homes m cpu source task → LowersSquares by homes m cpu source task

-- a deed by which no task comes to the machine, goes from it or changes its weight: one of a turn, a rebase or a pull
abbrev pub is_turn_or_pull : Deed → Bool
is_turn_or_pull (Tick cpu ns) = true
is_turn_or_pull (Pick cpu) = true
is_turn_or_pull (Yield cpu) = true
is_turn_or_pull (Pull cpu source) = true
is_turn_or_pull (Rebase cpu) = true
is_turn_or_pull deed = false

-- all of these deeds are such, and allowed
abbrev pub AreTurnsAndPulls : ℕ → List ℕ → List Deed → Type 0
AreTurnsAndPulls cpus homes deeds = AllByRecursion (λ (d : Deed). (is_turn_or_pull d ≡ true) × (is_allowed cpus homes d ≡ true)) deeds

-- how many pulls among lines took a task
abbrev pub pulls_that_took : List Line → ℕ
pulls_that_took [] = 0
pulls_that_took (l ∷ ls) = count (is_some (taken l.answer)) + pulls_that_took ls

-- so many times the pulls that take a task, and the sum at the end, are at most the sum at first: so they end
abbrev pub PullsAreFew : ℕ → Type 0
PullsAreFew each =
    (homes : List ℕ) (m : Machine) (deeds : List Deed) → AreCpus (length m) homes → IsPlaced homes m →
    AreTurnsAndPulls (length m) homes deeds →
    each * pulls_that_took (lines_of homes m deeds) + sum_of_squares (machine_after homes m deeds) ≤ sum_of_squares m
