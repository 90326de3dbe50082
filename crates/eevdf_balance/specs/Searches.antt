-- What a CPU that has nothing learns of the others while it looks for work along a history.
use Rattle.std.specs.Prelude.{◌≡◌, ◌≢◌, ℕ, ◌≤◌, ◌⊎◌, All, List, ◌∷◌, ◌++◌}
use Rattle.eevdf_ops.specs.{declared.deeds.Answer.Answer, declared.deeds.Line.Line, declared.deeds.Deed.TheVariants.Pull}
use Rattle.eevdf_ops.specs.declared.deeds.Answer.TheVariants.{Pulled, Range}
use Rattle.eevdf_ops.specs.{Machine.Machine, Histories.machine_told, Histories.AreHistory, Programs.lines_by}
use Rattle.eevdf_balance.specs.Crowds.{tasks_at, IsIdle}

-- a line is a pull by this CPU that took no task
abbrev pub IsFailedPull : ℕ → Line → Type 0
IsFailedPull cpu line = (source : ℕ) × (line.deed ≡ Pull cpu source) × ((task : ℕ) → line.answer ≢ Pulled task)

-- a CPU had nothing, its own lines since then are pulls that took no task, and then it tried another CPU and took none: that one had one task
-- at most then, or one that couldn't be placed in range
abbrev pub SearchTells : Type 0
SearchTells =
    (homes : List ℕ) (start : Machine) (lines seen since later : List Line) (cpu source : ℕ) (answer : Answer) → AreHistory homes start lines →
    lines ≡ seen ++ since ++ record { deed = Pull cpu source; answer = answer } ∷ later → IsIdle (machine_told homes start seen) cpu →
    All (IsFailedPull cpu) (lines_by cpu since) → ((task : ℕ) → answer ≢ Pulled task) →
    (tasks_at (machine_told homes start (seen ++ since)) source ≤ 1) ⊎ (answer ≡ Range)
