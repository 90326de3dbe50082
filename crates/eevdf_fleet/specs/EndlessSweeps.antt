-- What a seat of the fleet that keeps no history comes to that looks for work at the other CPUs.
use Rattle.std.specs.Prelude.{◌≡◌, ◌≢◌, ℕ, ◌<◌, ◌≤◌, ◌⊎◌, List, ◌∷◌, ◌++◌, All, Option, None}
use Rattle.eevdf_balance.specs.Crowds.{IsIdle, tasks_at}
use Rattle.eevdf_ops.specs.{declared.deeds.Answer.Answer, declared.deeds.Line.Line, Programs.lines_by, Setup.Setup, Setup.cpus_of}
use mathlib.Core.List.{IsPrefix}
use Rattle.eevdf_ops.specs.declared.deeds.Answer.TheVariants.{Range}
use Rattle.eevdf_fleet.specs.{Endless.HasSeen, Endless.Seat, Endless.told_by, Sweeps.ArePulls, Sweeps.IsFailedPull, Sweeps.TookNothing, Sweeps.pull_line}

-- a seat has tried a CPU since some moment, and got no task: what came after all that it had seen then, of which its own lines are pulls
-- that took no task either, the line of the try, and what came later
pub record HasTried (before after : Seat) (source : ℕ) : Type 0 where
  pub since : List Line
  pub answer : Answer
  pub later : List Line
  pub told : after.seen ≡ before.seen ++ since ++ pull_line before.cpu source answer ∷ later
  pub nothing : TookNothing answer
  pub own : All (IsFailedPull before.cpu) (lines_by before.cpu since)

-- a seat has got the lines of pulls, and has seen more; where no task was found, it has tried each other CPU
pub record HasSwept (s : Setup) (found : Option ℕ) (before after : Seat) : Type 0 where
  pub lines : List Line
  pub cpu : after.cpu ≡ before.cpu
  pub log : after.log ≡ before.log ++ lines
  pub pulls : ArePulls (cpus_of s) before.cpu found lines
  pub tried : found ≡ None → (source : ℕ) → source < cpus_of s → source ≢ before.cpu → HasTried before after source
  pub seen : IsPrefix before.seen after.seen
  pub posted : after.posted ≡ before.posted
  pub free : after.free ≡ before.free
  pub has_seen : HasSeen s after

-- by what a seat has seen its CPU has nothing to run
abbrev pub HasNothing : Setup → Seat → Type 0
HasNothing s seat = IsIdle (told_by s seat.seen) seat.cpu

-- a CPU that was tried since had one runnable task at most then, whether it ran or waited, or one that couldn't be placed in range
pub record WasNotCrowded (s : Setup) (before after : Seat) (source : ℕ) : Type 0 where
  pub tried : HasTried before after source
  pub few : (tasks_at (told_by s (before.seen ++ tried.since)) source ≤ 1) ⊎ (tried.answer ≡ Range)

-- and so it was of each other CPU
abbrev pub NoneWasCrowded : Setup → Seat → Seat → Type 0
NoneWasCrowded s before after = (source : ℕ) → source < cpus_of s → source ≢ before.cpu → WasNotCrowded s before after source
