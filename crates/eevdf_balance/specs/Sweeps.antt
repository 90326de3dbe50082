-- How long a sweep of the other CPUs stays good.
use Rattle.std.specs.Prelude.{◌≡◌, ◌≢◌, ℕ, ◌≤◌, ◌<◌, ◌⊎◌, true, List, [], ◌∷◌, ◌++◌, Option, Some, None}
use Rattle.eevdf_ops.specs.{declared.deeds.Answer.Answer, declared.deeds.Deed.Deed, declared.deeds.Line.Line, declared.deeds.Deed.TheVariants.Pull}
use Rattle.eevdf_ops.specs.declared.deeds.Answer.TheVariants.{Pulled, Range}
use Rattle.eevdf_ops.specs.{Machine.Machine, Whole.whole, Whole.machine_after, Histories.machine_told, Histories.AreHistory, Programs.lines_by}
use Rattle.eevdf_balance.specs.Crowds.{tasks_at, IsIdle, comes, comings}
use Rattle.eevdf_balance.specs.{Refusals.IsRefusal, Excuses.HasTried}

-- by these deeds tasks come only to CPUs that have nothing
abbrev pub ComeToIdle : List ℕ → Machine → List Deed → Type 0
ComeToIdle homes m [] = Unit {0}
ComeToIdle homes m (d ∷ ds) =
    ((c : ℕ) → comes c d (whole homes d m).0 ≡ true → IsIdle m c) × ComeToIdle homes (whole homes d m).1 ds

-- an idle CPU was refused by a source: the source is crowded never again, while tasks come only to CPUs that have nothing
abbrev pub OneSweepConserves : Type 0
OneSweepConserves =
    (homes : List ℕ) (m : Machine) (cpu source : ℕ) (later : List Deed) → IsIdle m cpu → IsRefusal (whole homes (Pull cpu source) m).0 →
    ComeToIdle homes (whole homes (Pull cpu source) m).1 later →
    tasks_at (machine_after homes (whole homes (Pull cpu source) m).1 later) source ≤ 1

-- a CPU has tried each other one of so many since it last had something; the lines since each try
pub record HasSwept (cpus : ℕ) (homes : List ℕ) (start : Machine) (lines : List Line) (cpu : ℕ) (since : ℕ → List Line) : Type 0 where
  pub tried : (source : ℕ) → source < cpus → source ≢ cpu → HasTried homes start lines cpu source (since source)

-- where no task has come to a crowded CPU since a CPU that has nothing tried it, no CPU is crowded beside one that has swept
abbrev pub NoneIdlesBesideCrowded : Type 0
NoneIdlesBesideCrowded =
    (cpus : ℕ) (homes : List ℕ) (start : Machine) (lines : List Line) (cpu : ℕ) (since : ℕ → List Line) → AreHistory homes start lines →
    IsIdle (machine_told homes start lines) cpu → HasSwept cpus homes start lines cpu since →
    ((source : ℕ) → comings source (since source) ≡ 0) → (source : ℕ) → source < cpus → tasks_at (machine_told homes start lines) source ≤ 1

-- what a pull took
abbrev pub taken : Answer → Option ℕ
taken (Pulled task) = Some task
taken answer = None

-- in a history a CPU that had nothing tried another one, and took no task: that one had one task at most then, or one that couldn't be
-- placed in range
abbrev pub TryTells : Type 0
TryTells =
    (homes : List ℕ) (start : Machine) (before later : List Line) (cpu source : ℕ) (answer : Answer) →
    AreHistory homes start (before ++ record { deed = Pull cpu source; answer = answer } ∷ later) → IsIdle (machine_told homes start before) cpu →
    taken answer ≡ None → (tasks_at (machine_told homes start before) source ≤ 1) ⊎ (answer ≡ Range)

-- a CPU that had nothing still has nothing when a history has gone on, if no task came there by a line of its own
abbrev pub OwnLinesTellIdle : Type 0
OwnLinesTellIdle =
    (homes : List ℕ) (start : Machine) (lines more : List Line) (cpu : ℕ) → AreHistory homes start (lines ++ more) →
    comings cpu (lines_by cpu more) ≡ 0 → IsIdle (machine_told homes start lines) cpu → IsIdle (machine_told homes start (lines ++ more)) cpu
