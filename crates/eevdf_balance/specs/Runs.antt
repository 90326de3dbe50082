-- A task that an idle CPU has pulled runs there next.
use Rattle.std.specs.Prelude.{◌≡◌, ℕ, ◌<◌, false, List, [], ◌∷◌, length}
use Rattle.eevdf_ops.specs.{declared.deeds.Deed.Deed, declared.deeds.Line.Line, declared.deeds.Answer.TheVariants.Pulled, declared.deeds.Answer.TheVariants.Picked}
use Rattle.eevdf_ops.specs.{declared.deeds.Deed.TheVariants.Pick, declared.deeds.Deed.TheVariants.Pull, Machine.Machine, Whole.whole, Whole.lines_of, Whole.machine_after}
use Rattle.eevdf_balance.specs.Crowds.{IsIdle, comes, leaves}

-- by these lines no task comes to a CPU, and none sleeps or ends there; other CPUs may try to pull from it
abbrev pub AreElsewhere : ℕ → List Line → Type 0
AreElsewhere c [] = Unit {0}
AreElsewhere c (l ∷ ls) = (comes c l.deed l.answer ≡ false) × (leaves c l.deed l.answer ≡ false) × AreElsewhere c ls

-- an idle CPU pulls a task; a pick there runs it, if no other task has come and none has slept or ended there meanwhile
abbrev pub PulledRuns : Type 0
PulledRuns =
    (homes : List ℕ) (m : Machine) (cpu source task : ℕ) (later : List Deed) → cpu < length m → IsIdle m cpu →
    (whole homes (Pull cpu source) m).0 ≡ Pulled task → AreElsewhere cpu (lines_of homes (whole homes (Pull cpu source) m).1 later) →
    (whole homes (Pick cpu) (machine_after homes (whole homes (Pull cpu source) m).1 later)).0 ≡ Picked task
