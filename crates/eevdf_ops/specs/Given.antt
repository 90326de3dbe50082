-- What the setup and deeds give the tasks, and that it still stands on the machine.
use Rattle.std.specs.Prelude.{◌≡◌, ℕ, ◌==◌, ℤ, Bool, true, false, ◌||◌, if◌then◌else◌, List, [], ◌∷◌, slice_get, Some}
use Rattle.std.specs.List.{list_all}
use Rattle.std.specs.FinMap as map
use Rattle.eevdf_queue.specs.{declared.entry.Entry.Entry, declared.sleeper.Sleeper.Sleeper, State.State}
use Rattle.eevdf_ops.specs.{declared.task_spec.TaskSpec.TaskSpec, declared.deeds.Deed.Deed, declared.deeds.Answer.Answer, declared.deeds.Line.Line}
use Rattle.eevdf_ops.specs.{Setup.Setup, Setup.homes_of, Setup.allows, Machine.queue_at, Machine.start, Whole.machine_after, Whole.lines_of}
use Rattle.eevdf_ops.specs.declared.deeds.Answer.TheVariants as answer
use Rattle.eevdf_ops.specs.declared.deeds.Deed.TheVariants.{Renice, Begin, Set}

-- whether a deed is to give a task another nice level and slice
abbrev pub sets : Deed → ℕ → Bool
sets (Begin cpu begun nice slice) task = task == begun
sets (Set cpu given nice slice) task = task == given
sets other task = false

-- whether one of the deeds is
abbrev pub is_set : List Deed → ℕ → Bool
is_set [] task = false
is_set (d ∷ ds) task = sets d task || is_set ds task

-- whether a deed is to give a task another nice level
abbrev pub renices : Deed → ℕ → Bool
renices (Renice cpu reniced nice) task = task == reniced
renices (Begin cpu begun nice slice) task = task == begun
renices (Set cpu given nice slice) task = task == given
renices other task = false

-- whether one of the deeds is
abbrev pub is_reniced : List Deed → ℕ → Bool
is_reniced [] task = false
is_reniced (d ∷ ds) task = renices d task || is_reniced ds task

-- a task has the slice and the nice level that it was given, each unless one of the deeds is to give it another
pub record IsAsGiven (tasks : List TaskSpec) (deeds : List Deed) (task : ℕ) (nice : ℤ) (slice : ℕ) : Type 0 where
  pub spec : TaskSpec
  pub given : slice_get tasks task ≡ Some spec
  pub same_slice : is_set deeds task ≡ false → slice ≡ spec.slice
  pub same_nice : is_reniced deeds task ≡ false → nice ≡ spec.nice

-- so have the tasks of a queue, runnable and asleep
pub record AreAsGiven (tasks : List TaskSpec) (deeds : List Deed) (q : State) : Type 0 where
  pub runnable : (task : ℕ) (e : Entry) → map.get q.runnable task ≡ Some e → IsAsGiven tasks deeds task e.nice e.slice
  pub asleep : (task : ℕ) (s : Sleeper) → map.get q.asleep task ≡ Some s → IsAsGiven tasks deeds task s.nice s.slice

-- and of each queue of the machine that deeds lead to from the start
abbrev pub TasksStayAsGiven : Type 0
TasksStayAsGiven =
    (s : Setup) (deeds : List Deed) (cpu : ℕ) → AreAsGiven s.tasks deeds (queue_at (machine_after (homes_of s) (start s) deeds) cpu)

-- the nice level and the slice of a task after a deed with its answer, from those before: a begin and a set that were done gave
-- both, a renice that was done gave the level, and nothing else gave any
abbrev pub given_by : Deed → Answer → ℕ → ℤ × ℕ → ℤ × ℕ
given_by (Begin cpu begun nice slice) answer.Begun task before = if task == begun then (nice, slice) else before
given_by (Set cpu given nice slice) answer.Set task before = if task == given then (nice, slice) else before
given_by (Renice cpu reniced nice) answer.Reniced task before = if task == reniced then (nice, before.1) else before
given_by deed refusal task before = before

-- those that the lines of a history gave it last
abbrev pub last_given : List Line → ℕ → ℤ × ℕ → ℤ × ℕ
last_given [] task first = first
last_given (l ∷ ls) task first = last_given ls task (given_by l.deed l.answer task first)

-- a task has the nice level and the slice that it was given last, by the setup or by a line
pub record IsAsLastGiven (tasks : List TaskSpec) (lines : List Line) (task : ℕ) (nice : ℤ) (slice : ℕ) : Type 0 where
  pub spec : TaskSpec
  pub begun : slice_get tasks task ≡ Some spec
  pub same_nice : nice ≡ (last_given lines task (spec.nice, spec.slice)).0
  pub same_slice : slice ≡ (last_given lines task (spec.nice, spec.slice)).1

-- so have the tasks of a queue, runnable and asleep
pub record AreAsLastGiven (tasks : List TaskSpec) (lines : List Line) (q : State) : Type 0 where
  pub runnable : (task : ℕ) (e : Entry) → map.get q.runnable task ≡ Some e → IsAsLastGiven tasks lines task e.nice e.slice
  pub asleep : (task : ℕ) (s : Sleeper) → map.get q.asleep task ≡ Some s → IsAsLastGiven tasks lines task s.nice s.slice

-- and of each queue of the machine that allowed deeds lead to from the start
abbrev pub TasksAreAsLastGiven : Setup → Type 0
TasksAreAsLastGiven s =
    (deeds : List Deed) (cpu : ℕ) → list_all (allows s) deeds ≡ true →
    AreAsLastGiven s.tasks (lines_of (homes_of s) (start s) deeds) (queue_at (machine_after (homes_of s) (start s) deeds) cpu)
