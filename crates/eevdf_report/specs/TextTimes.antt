-- Times in front of lines.
use Rattle.std.specs.Prelude.{ℕ, ◌-◌, ◌==◌, Bool, true, if◌then◌else◌, List, [], ◌∷◌, ◌++◌, length, replicate, slice_index, codes, decimal}
use Rattle.std.specs.List.{flat_map}
use Rattle.eevdf_ops.specs.{declared.deeds.Line.Line, Parts.decider}
use Rattle.eevdf_clocks.specs.{declared.moment.Moment.Moment, Times.after_all, Times.moments_of, Times.opened}
use Rattle.eevdf_report.specs.TextDeed.{schedule_line}

-- so many characters a time takes at least
abbrev pub time_width : ℕ
time_width = 16

-- a number of nanoseconds, to the right in its column, and a space
unfoldable pub time_text : ℕ → List ℕ
time_text time = replicate (time_width - length (decimal time)) 32 ++ decimal time ++ codes " "

-- a text with a word in front of each line; whether a line begins where the text does
abbrev pub before_lines : List ℕ → Bool → List ℕ → List ℕ
before_lines word begins [] = []
before_lines word begins (b ∷ bs) = (if begins then word else []) ++ b ∷ before_lines word (b == 10) bs

-- a text of whole lines with a time in front of each
abbrev pub at_time : ℕ → List ℕ → List ℕ
at_time time text = before_lines (time_text time) true text

-- a line of the history, where its deed is of this CPU, with the time at which the deed began
abbrev pub timed_line : ℕ → Moment → List ℕ
timed_line cpu m = if decider m.line.deed == cpu then time_text m.begin ++ schedule_line m.line else []

-- the schedule of one CPU
abbrev pub timed_schedule : ℕ → List Line → List ℕ
timed_schedule cpu lines = flat_map (timed_line cpu) (moments_of lines)

-- its clock after all lines
abbrev pub end_time : ℕ → List Line → ℕ
end_time cpu lines = slice_index (after_all opened lines).cpus cpu
