-- Days of turns of one CPU of a machine, and of all its CPUs, each day ended by a rebase.
use Rattle.std.specs.Prelude.{◌≡◌, ℕ, ◌<◌, true, ℤ, List, [], ◌∷◌, ◌++◌, length}
use Rattle.std.specs.List.{AllByRecursion, list_all}
use Rattle.eevdf_queue.specs.State.{State}
use Rattle.eevdf_ops.specs.{declared.deeds.Deed.Deed, declared.deeds.Deed.TheVariants.Rebase, declared.deeds.Line.Line, declared.deeds.Answer.TheVariants.Range}
use Rattle.eevdf_ops.specs.{Setup.is_allowed, Machine.Machine, Machine.queue_at, Programs.deeds_of, Programs.lines_by, Whole.lines_of, Whole.machine_after}
use Rattle.eevdf_ops.specs.Histories.{AreHistory, machine_told}
use Rattle.eevdf_fairness.specs.{Turns.Turn, OneCpu.turns_on, OneCpu.touching}
use Rattle.eevdf_fairness.specs.Days.{IsDay, AreDays, IsNearStart, IsFarFromRange}

-- the deeds of days on a CPU: the turns of each day, and then its rebase
abbrev pub days_on : ℕ → List (List Turn) → List Deed
days_on cpu [] = []
days_on cpu (day ∷ days) = turns_on cpu day ++ (Rebase cpu ∷ days_on cpu days)

-- deeds are those of days on a CPU, and then of the turns of a day that isn't over
pub record AreOfDays (cpu : ℕ) (deeds : List Deed) : Type 0 where
  pub days : List (List Turn)
  pub today : List Turn
  pub are_days : AreDays days
  pub is_day : IsDay today
  pub only : deeds ≡ days_on cpu days ++ turns_on cpu today

-- a fresh start of a queue, near the time 0
pub record IsStart (q : State) : Type 0 where
  pub time : ℤ
  pub near : IsNearStart time q

-- nothing was answered to be out of range
abbrev pub NoneIsRange : List Line → Type 0
NoneIsRange = AllByRecursion (λ (l : Line). l.answer ≡ Range → ⊥)

-- a CPU's queue isn't near the end of the range, and none of the CPU's deeds so far was out of range
pub record HasStayed (cpu : ℕ) (m : Machine) (history : List Line) : Type 0 where
  pub far : IsFarFromRange (queue_at m cpu)
  pub lines : NoneIsRange (lines_by cpu history)

-- so it is of a CPU while of the deeds of all CPUs those that touch its queue are its days, whatever the others do
abbrev pub OneCpuStaysInRange : Type 0
OneCpuStaysInRange =
    (homes : List ℕ) (m : Machine) (cpu : ℕ) (deeds : List Deed) → cpu < length m → IsStart (queue_at m cpu)
    → AreOfDays cpu (touching homes cpu deeds) → HasStayed cpu (machine_after homes m deeds) (lines_of homes m deeds)

-- and of a whole machine, and its history, where the deeds of each CPU are its days
pub record HaveStayed (m : Machine) (history : List Line) : Type 0 where
  pub far : (cpu : ℕ) → cpu < length m → IsFarFromRange (queue_at m cpu)
  pub lines : NoneIsRange history

abbrev pub MachinesStayInRange : Type 0
MachinesStayInRange =
    (homes : List ℕ) (start : Machine) (lines : List Line) → AreHistory homes start lines → list_all (is_allowed (length start) homes) (deeds_of lines) ≡ true
    → ((cpu : ℕ) → cpu < length start → IsStart (queue_at start cpu)) → ((cpu : ℕ) → cpu < length start → AreOfDays cpu (deeds_of (lines_by cpu lines)))
    → HaveStayed (machine_told homes start lines) lines
