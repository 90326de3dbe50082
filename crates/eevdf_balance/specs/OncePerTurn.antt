-- How often a task is pulled, where who pulls has nothing and then picks.
use Rattle.std.specs.Prelude.{◌≡◌, ℕ, ◌+◌, ◌≤◌, ◌==◌, Bool, true, false, List, [], ◌∷◌, length}
use Rattle.std.specs.List.{AllByRecursion}
use Rattle.eevdf_ops.specs.{declared.deeds.Deed.Deed, declared.deeds.Answer.Answer, declared.deeds.Line.Line}
use Rattle.eevdf_ops.specs.{declared.deeds.Deed.TheVariants.Pick, declared.deeds.Deed.TheVariants.Pull}
use Rattle.eevdf_ops.specs.{declared.deeds.Answer.TheVariants.Picked, declared.deeds.Answer.TheVariants.Pulled}
use Rattle.eevdf_ops.specs.{Machine.Machine, Places.count, Places.AreCpus, Places.IsPlaced, Setup.is_allowed}
use Rattle.eevdf_ops.specs.{Programs.deeds_by, Whole.whole, Whole.lines_of}
use Rattle.eevdf_balance.specs.Crowds.{IsIdle}

-- the next of these deeds that is a CPU's own, if there is one, is a pick
abbrev pub PicksNext : ℕ → List Deed → Type 0
PicksNext cpu deeds = (next : Deed) (more : List Deed) → deeds_by cpu deeds ≡ next ∷ more → next ≡ Pick cpu

-- where a deed is a pull that takes a task, its CPU has nothing before, and picks next
abbrev pub IsToRun : List ℕ → Machine → Deed → List Deed → Type 0
IsToRun homes m deed later =
    (cpu source task : ℕ) → deed ≡ Pull cpu source → (whole homes deed m).0 ≡ Pulled task → IsIdle m cpu × PicksNext cpu later

-- so it is of each of these deeds
abbrev pub PullToRun : List ℕ → Machine → List Deed → Type 0
PullToRun homes m [] = Unit {0}
PullToRun homes m (d ∷ ds) = IsToRun homes m d ds × PullToRun homes (whole homes d m).1 ds

-- a pull takes a task, and a pick finds it
abbrev pub pulls_it : ℕ → Deed → Answer → Bool
pulls_it task (Pull cpu source) (Pulled other) = other == task
pulls_it task deed answer = false

abbrev pub picks_it : ℕ → Deed → Answer → Bool
picks_it task (Pick cpu) (Picked other) = other == task
picks_it task deed answer = false

-- how many lines do so
abbrev pub times : (Deed → Answer → Bool) → List Line → ℕ
times does [] = 0
times does (l ∷ ls) = count (does l.deed l.answer) + times does ls

-- from a machine where each task stands in one place, a task is pulled at most once more than it is picked
abbrev pub PulledOncePerTurn : Type 0
PulledOncePerTurn =
    (homes : List ℕ) (m : Machine) (deeds : List Deed) (task : ℕ) → AreCpus (length m) homes → IsPlaced homes m →
    AllByRecursion (λ (d : Deed). is_allowed (length m) homes d ≡ true) deeds → PullToRun homes m deeds →
    times (pulls_it task) (lines_of homes m deeds) ≤ times (picks_it task) (lines_of homes m deeds) + 1
