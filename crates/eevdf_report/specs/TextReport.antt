-- The report: each CPU's schedule, queue and waiting requests, and the history as a script.
use Rattle.std.specs.Prelude.{ℕ, ◌+◌, ◌*◌, ◌==◌, Bool, true, false, List, [], ◌++◌, length, codes, decimal, if◌then◌else◌, slice_index_or}
use Rattle.std.specs.List.{flat_map, range_with_len}
use Rattle.eevdf_ops.specs.{declared.deeds.Line.Line, Machine.Machine, Machine.queue_at, Parts.decider}
use Rattle.eevdf_report.specs.{Text.as_line, TextQueue.queue_text}
use Rattle.eevdf_report.specs.TextDeed.{schedule_line, script_line}
use Rattle.eevdf_report.specs.TextTimes.{at_time, end_time, time_text, timed_schedule}
use Rattle.eevdf_report.specs.declared.form.Form.{Form}

-- a line of the history, where its deed is of this CPU
abbrev pub schedule_at : ℕ → Line → List ℕ
schedule_at cpu l = if decider l.deed == cpu then schedule_line l else []

-- the schedule of one CPU
abbrev pub schedule_of : ℕ → List Line → List ℕ
schedule_of cpu lines = flat_map (schedule_at cpu) lines

abbrev pub left_line : ℕ → ℕ → List ℕ
left_line sender task = as_line (codes "left " ++ decimal task ++ codes " from " ++ decimal sender)

-- the requests of one sender that weren't drained
abbrev pub left_from : ℕ → List ℕ → List ℕ
left_from sender tasks = flat_map (left_line sender) tasks

-- those to one home, among so many CPUs
abbrev pub left_at : ℕ → List (List ℕ) → ℕ → ℕ → List ℕ
left_at cpus left home sender = left_from sender (slice_index_or left (sender * cpus + home) [])

-- the requests to one home that weren't drained, by ascending sender
abbrev pub left_of : ℕ → List (List ℕ) → ℕ → List ℕ
left_of cpus left home = flat_map (left_at cpus left home) (range_with_len 0 cpus)

abbrev pub cpu_line : ℕ → List ℕ
cpu_line cpu = as_line (codes "cpu " ++ decimal cpu)

-- what is reported of one CPU
abbrev pub cpu_text : List Line → Machine → List (List ℕ) → ℕ → List ℕ
cpu_text lines machine left cpu =
    cpu_line cpu ++ schedule_of cpu lines ++ queue_text (queue_at machine cpu) ++ left_of (length machine) left cpu

-- what a CPU is left with: its queue and the requests to it
abbrev pub state_text : Machine → List (List ℕ) → ℕ → List ℕ
state_text machine left cpu = queue_text (queue_at machine cpu) ++ left_of (length machine) left cpu

-- the same with times: of its number that of its clock at first, of each deed that at which it began, and of all else that after all deeds
abbrev pub timed_cpu_text : List Line → Machine → List (List ℕ) → ℕ → List ℕ
timed_cpu_text lines machine left cpu =
    time_text 0 ++ cpu_line cpu ++ timed_schedule cpu lines ++ at_time (end_time cpu lines) (state_text machine left cpu)

unfoldable pub script_start : List ℕ
script_start = as_line (codes "script = [")

abbrev pub script_lines : List Line → List ℕ
script_lines lines = flat_map script_line lines

-- the history as a script that makes it again
abbrev pub script_text : List Line → List ℕ
script_text lines = script_start ++ script_lines lines ++ as_line (codes "]")

-- what is reported of the CPUs, in ascending order
abbrev pub cpus_text : List Line → Machine → List (List ℕ) → List ℕ
cpus_text lines machine left = flat_map (cpu_text lines machine left) (range_with_len 0 (length machine))

abbrev pub timed_cpus_text : List Line → Machine → List (List ℕ) → List ℕ
timed_cpus_text lines machine left = flat_map (timed_cpu_text lines machine left) (range_with_len 0 (length machine))

-- with times, where they are wanted
abbrev pub schedules_text : Bool → List Line → Machine → List (List ℕ) → List ℕ
schedules_text true lines machine left = timed_cpus_text lines machine left
schedules_text false lines machine left = cpus_text lines machine left

-- the history, where it is wanted
abbrev pub history_text : Bool → List Line → List ℕ
history_text true lines = script_text lines
history_text false lines = []

abbrev pub report_text : List Line → Machine → List (List ℕ) → Form → List ℕ
report_text lines machine left form = schedules_text form.times lines machine left ++ history_text form.history lines
