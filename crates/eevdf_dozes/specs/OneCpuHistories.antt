-- The lines of a history, as any seat of a fleet has seen them, and what the laws of a CPU ask of deeds.
use Rattle.std.specs.Prelude.{◌≡◌, true, List, ◌++◌}
use Rattle.std.specs.List.{list_all}
use Rattle.eevdf_ops.specs.{declared.deeds.Line.Line, Machine.Machine, Machine.start, Places.AreCpus, Programs.deeds_of}
use Rattle.eevdf_ops.specs.{Setup.Setup, Setup.allows, Setup.cpus_of, Setup.homes_of, Whole.lines_of, Whole.machine_after}
use Rattle.eevdf_ops.specs.Histories.{AreHistory, machine_told}
use Rattle.eevdf_dozes.specs.OneCpu.{AreAllowedDeeds}

-- Lines from the opening of a setup on: each answer is that of its deed, done at once after the lines before it, and the setup allows each
-- deed. As in each setup every task has its home at one of the CPUs
pub record IsHistoryOf (s : Setup) (lines : List Line) : Type 0 where
  pub cpus : AreCpus (cpus_of s) (homes_of s)
  pub history : AreHistory (homes_of s) (start s) lines
  pub allowed : list_all (allows s) (deeds_of lines) ≡ true

-- the machine that these lines leave
abbrev pub machine_by : Setup → List Line → Machine
machine_by s lines = machine_told (homes_of s) (start s) lines

-- Lines that come after others: their deeds are what the laws of a CPU ask from the machine on that the others leave, they are the lines
-- that these laws speak of, and lead to the machine that all leave
pub record GoesOnSo (s : Setup) (before lines : List Line) : Type 0 where
  pub allowed : AreAllowedDeeds (homes_of s) (machine_by s before) (deeds_of lines)
  pub same : lines_of (homes_of s) (machine_by s before) (deeds_of lines) ≡ lines
  pub after : machine_after (homes_of s) (machine_by s before) (deeds_of lines) ≡ machine_by s (before ++ lines)

-- so it is of a history from each of its moments on
abbrev pub HistoriesGoOnSo : Type 0
HistoriesGoOnSo = (s : Setup) (before lines : List Line) → IsHistoryOf s (before ++ lines) → GoesOnSo s before lines
