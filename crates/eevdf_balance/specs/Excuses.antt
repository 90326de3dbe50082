-- A pull that an idle CPU was refused, and a source that is crowded before or after it: a task has come there, or gone, in between.
use Rattle.std.specs.Prelude.{◌≡◌, ℕ, ◌≤◌, List, ◌∷◌, ◌++◌}
use Rattle.eevdf_ops.specs.{declared.deeds.Answer.Answer, declared.deeds.Deed.Deed, declared.deeds.Line.Line, declared.deeds.Deed.TheVariants.Pull}
use Rattle.eevdf_ops.specs.{Machine.Machine, Whole.whole, Whole.lines_of, Whole.machine_after, Histories.machine_told, Histories.AreHistory}
use Rattle.eevdf_balance.specs.Crowds.{IsIdle, IsCrowded, comings, goings}
use Rattle.eevdf_balance.specs.Refusals.{IsRefusal}

-- a source that is crowded some deeds after an idle CPU was refused there has got a task by one of these deeds
abbrev pub RefusalIsExcused : Type 0
RefusalIsExcused =
    (homes : List ℕ) (m : Machine) (cpu source : ℕ) (later : List Deed) → IsIdle m cpu → IsRefusal (whole homes (Pull cpu source) m).0 →
    IsCrowded (machine_after homes (whole homes (Pull cpu source) m).1 later) source →
    1 ≤ comings source (lines_of homes (whole homes (Pull cpu source) m).1 later)

-- in a history a CPU that has nothing tries another one, and is refused; the lines since then
pub record HasTried (homes : List ℕ) (start : Machine) (lines : List Line) (cpu source : ℕ) (later : List Line) : Type 0 where
  pub before : List Line
  pub answer : Answer
  pub told : lines ≡ before ++ record { deed = Pull cpu source; answer = answer } ∷ later
  pub idle : IsIdle (machine_told homes start before) cpu
  pub refused : IsRefusal answer

-- work conservation: in a history, a CPU that is crowded now has got a task since a CPU that had nothing last tried it
abbrev pub RefusalIsExcusedInHistory : Type 0
RefusalIsExcusedInHistory =
    (homes : List ℕ) (start : Machine) (lines : List Line) (cpu source : ℕ) (later : List Line) → AreHistory homes start lines →
    HasTried homes start lines cpu source later → IsCrowded (machine_told homes start lines) source → 1 ≤ comings source later

-- a source that was crowded some deeds before an idle CPU is refused there has lost a task by one of these deeds
abbrev pub StaleLookIsExcused : Type 0
StaleLookIsExcused =
    (homes : List ℕ) (m : Machine) (cpu source : ℕ) (deeds : List Deed) → IsCrowded m source → IsIdle (machine_after homes m deeds) cpu →
    IsRefusal (whole homes (Pull cpu source) (machine_after homes m deeds)).0 → 1 ≤ goings source (lines_of homes m deeds)
