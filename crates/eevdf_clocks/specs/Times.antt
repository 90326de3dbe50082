-- The time of each line of a history.
use Rattle.std.specs.Prelude.{ℕ, ◌+◌, ◌-◌, ◌^◌, min, max, List, [], ◌∷◌, set, replicate, slice_index, Option, None, Some}
use Rattle.eevdf_queue.specs.Numbers.{number_limit}
use Rattle.eevdf_ops.specs.{declared.deeds.Answer.Answer, declared.deeds.Deed.Deed, declared.deeds.Line.Line, Numbers.cpu_limit, Origins.decider, Origins.origin_of}
use Rattle.eevdf_ops.specs.{declared.named.Named.Named, declared.origin.Origin.Origin, Setup.named}
use Rattle.eevdf_ops.specs.declared.named.Named.TheVariants.{Task, TaskAtHome}
use Rattle.eevdf_ops.specs.declared.origin.Origin.TheVariants.{Operation, Request}
use Rattle.eevdf_ops.specs.declared.deeds.Answer.TheVariants as answer
use Rattle.eevdf_ops.specs.declared.deeds.Deed.TheVariants.{Tick, Wake, Pull}
use Rattle.eevdf_clocks.specs.declared.moment.Moment.{Moment}

-- the clock of each CPU, and for each task the time at which it fell asleep or ended last, in nanoseconds
pub record Clocks : Type 0 where
  pub cpus : List ℕ
  pub slept : List ℕ

-- all begin at 0
abbrev pub opened : Clocks
opened = record { cpus = replicate cpu_limit 0; slept = replicate number_limit 0 }

-- a clock goes no further, after 584 years
abbrev pub last_time : ℕ
last_time = 2 ^ 64 - 1

-- ---- what a line says

-- the task that a deed names: that of its operation, or of the request
abbrev pub task_in : Named → Option ℕ
task_in (Task task) = Some task
task_in (TaskAtHome task) = Some task
task_in _ = None

abbrev pub task_by : Origin → Option ℕ
task_by (Operation o) = task_in (named o)
task_by (Request task sender) = Some task

abbrev pub task_of : Deed → Option ℕ
task_of d = task_by (origin_of d)

-- the task that fell asleep or ended
abbrev pub asleep_by : Answer → Deed → Option ℕ
asleep_by (answer.Slept lag) d = task_of d
asleep_by answer.Ended d = task_of d
asleep_by _ d = None

-- the task that was found asleep, or may have been, as one that is set
abbrev pub found_by : Answer → Deed → Option ℕ
found_by answer.Woken d = task_of d
found_by answer.Begun d = task_of d
found_by answer.Set d = task_of d
found_by _ d = None

-- the nanoseconds of a tick
abbrev pub ticked : Deed → ℕ
ticked (Tick cpu ns) = ns
ticked _ = 0

-- a tick takes its nanoseconds, unless it was refused, and nothing else takes time
abbrev pub time_taken : Answer → Deed → ℕ
time_taken answer.Range d = 0
time_taken _ d = ticked d

abbrev pub length_of : Line → ℕ
length_of l = time_taken l.answer l.deed

-- ---- when it was done

-- the clock of the other CPU that a deed names, the source of a pull or the sender of a wake, and else of its own
abbrev pub other_clock : Clocks → Deed → ℕ
other_clock c (Pull cpu source) = slice_index c.cpus source
other_clock c (Wake cpu task sender) = slice_index c.cpus sender
other_clock c d = slice_index c.cpus (decider d)

-- when the task that was found asleep fell asleep
abbrev pub asleep_since : Clocks → Option ℕ → ℕ
asleep_since c (Some task) = slice_index c.slept task
asleep_since c None = 0

-- a line begins at its CPU's clock, which has moved on to these two where it was behind
abbrev pub begin_of : Clocks → Line → ℕ
begin_of c l = max (max (slice_index c.cpus (decider l.deed)) (other_clock c l.deed)) (asleep_since c (found_by l.answer l.deed))

abbrev pub end_of : Clocks → Line → ℕ
end_of c l = min (begin_of c l + length_of l) last_time

abbrev pub moment_of : Clocks → Line → Moment
moment_of c l = record { line = l; begin = begin_of c l; end = end_of c l; other = other_clock c l.deed }

-- ---- the clocks after it

abbrev pub slept_after : List ℕ → Option ℕ → ℕ → List ℕ
slept_after slept (Some task) time = set slept task time
slept_after slept None time = slept

abbrev pub after : Clocks → Line → Clocks
after c l = record {
  cpus = set c.cpus (decider l.deed) (end_of c l);
  slept = slept_after c.slept (asleep_by l.answer l.deed) (begin_of c l);
}

-- the clocks after lines
abbrev pub after_all : Clocks → List Line → Clocks
after_all c [] = c
after_all c (l ∷ ls) = after_all (after c l) ls

-- and the lines with their times
abbrev pub moments_from : Clocks → List Line → List Moment
moments_from c [] = []
moments_from c (l ∷ ls) = moment_of c l ∷ moments_from (after c l) ls

-- those of a history from its start on
abbrev pub moments_of : List Line → List Moment
moments_of lines = moments_from opened lines
