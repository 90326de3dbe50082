-- What a CPU comes to that looks for work: pulls from the other CPUs in turn, until one of them gives a task.
use Rattle.std.specs.Prelude.{◌≡◌, ◌≢◌, ℕ, ◌+◌, ◌-◌, ◌<◌, ◌⊎◌, List, [], ◌∷◌, ◌++◌, All, length, Option, None, MatchOption}
use Rattle.eevdf_ops.specs.{declared.deeds.Answer.Answer, declared.deeds.Line.Line}
use Rattle.eevdf_ops.specs.{declared.deeds.Answer.TheVariants.Pulled, declared.deeds.Deed.TheVariants.Pull}
use Rattle.eevdf_fleet.specs.Fleets.{Seat}

-- a CPU comes so many numbers after another one, where the first of them all comes after the last
abbrev pub ComesAfter : ℕ → ℕ → ℕ → ℕ → Type 0
ComesAfter cpus cpu steps next = (next < cpus) × ((next ≡ cpu + steps) ⊎ (next + cpus ≡ cpu + steps))

-- the line of a pull
abbrev pub pull_line : ℕ → ℕ → Answer → Line
pull_line cpu source answer = record { deed = Pull cpu source; answer = answer }

-- a pull took no task
abbrev pub TookNothing : Answer → Type 0
TookNothing answer = (task : ℕ) → answer ≢ Pulled task

-- a line is a pull by this CPU that took no task
abbrev pub IsFailedPull : ℕ → Line → Type 0
IsFailedPull cpu line = (source : ℕ) × (line.deed ≡ Pull cpu source) × TookNothing line.answer

-- lines are pulls by this CPU from the others in turn, the first from the one that comes so many numbers after it
abbrev pub ArePullsInTurn : ℕ → ℕ → ℕ → List Line → Type 0
ArePullsInTurn cpus cpu steps [] = Unit {0}
ArePullsInTurn cpus cpu steps (line ∷ lines) =
    ((source : ℕ) × (line.deed ≡ Pull cpu source) × ComesAfter cpus cpu steps source) × ArePullsInTurn cpus cpu (steps + 1) lines

-- lines are pulls by this CPU that took no task, and then one from another CPU that took this one
pub record EndWithPulled (cpu task : ℕ) (lines : List Line) : Type 0 where
  pub failed : List Line
  pub source : ℕ
  pub are : lines ≡ failed ++ pull_line cpu source (Pulled task) ∷ []
  pub each_failed : All (IsFailedPull cpu) failed
  pub other : source ≢ cpu

-- lines are pulls by this CPU from the others in turn, of which the last took the task that was found; where none was found they took none
pub record ArePulls (cpus cpu : ℕ) (found : Option ℕ) (lines : List Line) : Type 0 where
  pub in_turn : ArePullsInTurn cpus cpu 1 lines
  pub took : MatchOption found (All (IsFailedPull cpu) lines) (λ task. EndWithPulled cpu task lines)

-- among its lines this CPU has a pull from that one that took no task
pub record HasTried (cpu : ℕ) (lines : List Line) (source : ℕ) : Type 0 where
  pub earlier : List Line
  pub answer : Answer
  pub later : List Line
  pub told : lines ≡ earlier ++ pull_line cpu source answer ∷ later
  pub nothing : TookNothing answer

-- a seat has got the lines of pulls; where no task was found, it has tried each other CPU
pub record HasSwept (cpus : ℕ) (found : Option ℕ) (before after : Seat) : Type 0 where
  pub lines : List Line
  pub is : after ≡ record before { log = before.log ++ lines; room = before.room - length lines }
  pub pulls : ArePulls cpus before.cpu found lines
  pub tried : found ≡ None → (source : ℕ) → source < cpus → source ≢ before.cpu → HasTried before.cpu lines source
