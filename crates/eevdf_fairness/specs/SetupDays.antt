-- Histories of a setup, as fleets have them, in which each CPU has days of turns.
use Rattle.std.specs.Prelude.{◌≡◌, ℕ, ◌^◌, ◌<◌, ◌≤◌, true, ℤ, pos, unsigned_abs, List, length}
use Rattle.std.specs.List.{AllByRecursion, list_all}
use Rattle.eevdf_ops.specs.{declared.task_spec.TaskSpec.TaskSpec, declared.deeds.Line.Line, Machine.Machine, Machine.queue_at, Machine.start}
use Rattle.eevdf_ops.specs.{Setup.Setup, Setup.allows, Setup.cpus_of, Setup.homes_of, Programs.deeds_of, Programs.lines_by}
use Rattle.eevdf_ops.specs.Histories.{AreHistory, machine_told}
use Rattle.eevdf_fairness.specs.{Opening.StartTogether, MachineDays.AreOfDays, MachineDays.IsStart, MachineDays.HaveStayed}
use Rattle.eevdf_fairness.specs.LoweredMachines.{without_rebases, AreAlikeButForRebases}

-- the tasks that begin runnable on a CPU have one start, within 2^58 of the time 0
pub record BeginsNear (s : Setup) (cpu : ℕ) : Type 0 where
  pub time : ℤ
  pub together : StartTogether cpu time s.tasks
  pub near : unsigned_abs time ≤ 2 ^ 58

-- and so it is on each CPU, of at most 1024 tasks, with slices of at most 100 ms, as all slices of tasks are
pub record StartsNear (s : Setup) : Type 0 where
  pub few : length s.tasks ≤ 1024
  pub slices : AllByRecursion (λ (t : TaskSpec). t.slice ≤ 100000000) s.tasks
  pub near : (cpu : ℕ) → cpu < cpus_of s → BeginsNear s cpu

-- then the queue of each CPU is a fresh start near the time 0
abbrev pub OpeningIsNear : Type 0
OpeningIsNear = (s : Setup) → StartsNear s → (cpu : ℕ) → cpu < cpus_of s → IsStart (queue_at (start s) cpu)

-- a history of a setup in which the deeds of each CPU are those of days
pub record AreDaily (s : Setup) (lines : List Line) : Type 0 where
  pub history : AreHistory (homes_of s) (start s) lines
  pub allowed : list_all (allows s) (deeds_of lines) ≡ true
  pub days : (cpu : ℕ) → cpu < cpus_of s → AreOfDays cpu (deeds_of (lines_by cpu lines))

abbrev pub machine_of_setup : Setup → List Line → Machine
machine_of_setup s lines = machine_told (homes_of s) (start s) lines

-- no answer of it is that something would be out of range
abbrev pub SetupsStayInRange : Type 0
SetupsStayInRange = (s : Setup) (lines : List Line) → StartsNear s → AreDaily s lines → HaveStayed (machine_of_setup s lines) lines

-- and of two of them that are the same but for rebases, whenever the days of each end, all other answers are the same
abbrev pub DailyHistoriesAreAlike : Type 0
DailyHistoriesAreAlike =
    (s : Setup) (lines others : List Line) → StartsNear s → AreDaily s lines → AreDaily s others
    → without_rebases (deeds_of lines) ≡ without_rebases (deeds_of others)
    → AreAlikeButForRebases (λ (cpu : ℕ). pos 0) lines others (machine_of_setup s lines) (machine_of_setup s others)
