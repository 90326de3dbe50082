-- The schedules of all CPUs.
use Rattle.std.specs.Prelude.{ℕ, ◌==◌, List, [], ◌∷◌, map, if◌then◌else◌}
use Rattle.std.specs.List.{flat_map, range_with_len}
use Rattle.eevdf_ops.specs.{declared.deeds.Line.Line, Parts.decider}
use Rattle.eevdf_report.specs.TextDeed.{schedule_line}

-- a line of the history, where its deed is of this CPU
abbrev pub own_line : ℕ → Line → List Line
own_line cpu l = if decider l.deed == cpu then l ∷ [] else []

-- the lines of one CPU
abbrev pub own_lines : ℕ → List Line → List Line
own_lines cpu lines = flat_map (own_line cpu) lines

-- the lines of so many CPUs, in ascending order
abbrev pub schedules_of : ℕ → List Line → List (List Line)
schedules_of cpus lines = map (λ c. own_lines c lines) (range_with_len 0 cpus)

abbrev pub schedule_lines : List Line → List ℕ
schedule_lines lines = flat_map schedule_line lines
