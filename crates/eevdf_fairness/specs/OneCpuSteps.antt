-- Turns, leavings and rebases of one CPU of a machine, among whatever the other CPUs do.
use Rattle.std.specs.Prelude.{◌≡◌, ℕ, zero, ◌<◌, ◌==◌, if◌then◌else◌, ℤ, pos, List, [], ◌∷◌, ◌++◌, length, map, Option, Some, None}
use Rattle.std.specs.FinMap.{get, contains_key}
use Rattle.eevdf_queue.specs.{State.State, declared.entry.Entry.Entry, declared.sleeper.Sleeper.Sleeper}
use Rattle.eevdf_ops.specs.{declared.deeds.Deed.Deed, declared.deeds.Answer.Answer}
use Rattle.eevdf_ops.specs.declared.deeds.Deed.TheVariants.{Tick, Pick, Yield, Sleep, Doze, Wake, Pull, Renice, End, Rebase}
use Rattle.eevdf_ops.specs.declared.deeds.Deed.TheVariants as deed
use Rattle.eevdf_ops.specs.declared.deeds.Answer.TheVariants.{Charged, Picked, Slept, Ended, Rebased, Yielded, Woken, Reniced, Pulled}
use Rattle.eevdf_ops.specs.declared.deeds.Answer.TheVariants as answer
use Rattle.eevdf_ops.specs.{Machine.Machine, Machine.queue_at, Parts.decider, Whole.whole, Whole.machine_after}
use Rattle.eevdf_fairness.specs.{Turns.IsFresh, Joining.Joins, Joining.IsFairAfterJoin}
use Rattle.eevdf_fairness.specs.Leavings.{Step, Takes, Leaves, Rebases, after_steps, HaveNoLongerTurns, HaveSameRunnable, IsStillFair}

-- what a deed does to the runnable tasks of a CPU and to who runs there. A task joins there by a wake and by a pull to there, and joins again
-- by a renice, and by a set where it is runnable; these, and yields, are no steps
pub data Change : Type 0 where
  Picks : Change
  Ticks : ℕ → Change
  Loses : ℕ → Change
  Lowers : Change
  Gains : ℕ → Change
  Yields : Change

-- by a deed of the CPU itself with its answer, and the queue before it. Any other answer, as of a deed that is refused or finds nothing,
-- leaves the runnable tasks, and who runs, as they are; so do a rebase by 0, a set of a task that sleeps, and a begin
abbrev pub own_change : State → Deed → Answer → Option Change
own_change q (Tick at ns) (Charged task resched) = Some (Ticks ns)
own_change q (Pick at) (Picked task) = Some Picks
own_change q (Sleep at task) (Slept lag) = Some (Loses task)
own_change q (Doze at task) (Slept lag) = Some (Loses task)
own_change q (End at task) Ended = Some (Loses task)
own_change q (Rebase at) (Rebased (pos zero)) = None
own_change q (Rebase at) (Rebased by) = Some Lowers
own_change q (Wake at task sender) Woken = Some (Gains task)
own_change q (Renice at task nice) Reniced = Some (Gains task)
own_change q (deed.Set at task nice slice) answer.Set = if contains_key q.runnable task then Some (Gains task) else None
own_change q (Yield at) Yielded = Some Yields
own_change q deed answer = None

-- by a deed of any CPU: a pull takes a task from one CPU to another
abbrev pub change_at : ℕ → State → Deed → Answer → Option Change
change_at cpu q (Pull at source) (Pulled task) =
    if source == cpu then Some (Loses task) else (if at == cpu then Some (Gains task) else None)
change_at cpu q deed answer = if decider deed == cpu then own_change q deed answer else None

abbrev pub and_then : Option Change → List Change → List Change
and_then None changes = changes
and_then (Some change) changes = change ∷ changes

-- of deeds, in order
abbrev pub changes_at : List ℕ → ℕ → Machine → List Deed → List Change
changes_at homes cpu m [] = []
changes_at homes cpu m (d ∷ ds) =
    and_then (change_at cpu (queue_at m cpu) d (whole homes d m).0) (changes_at homes cpu (whole homes d m).1 ds)

-- a task that leaves in the middle of a turn may as well leave after it: a leaving counts as after the ticks that follow it. A rebase ends
-- a turn: the next tick is one of the next turn
abbrev pub after_ticks_of : ℕ → List Change → List Change
after_ticks_of task (Ticks ns ∷ changes) = Ticks ns ∷ after_ticks_of task changes
after_ticks_of task changes = Loses task ∷ changes

abbrev pub leavings_last : List Change → List Change
leavings_last [] = []
leavings_last (Loses task ∷ changes) = after_ticks_of task (leavings_last changes)
leavings_last (change ∷ changes) = change ∷ leavings_last changes

-- the changes of steps
abbrev pub changes_of : List Step → List Change
changes_of [] = []
changes_of (Takes turn ∷ steps) = Picks ∷ (map Ticks turn ++ changes_of steps)
changes_of (Leaves task ∷ steps) = Loses task ∷ changes_of steps
changes_of (Rebases ∷ steps) = Lowers ∷ changes_of steps

-- deeds of all CPUs, of which those that change the runnable tasks of this CPU, or who runs there, are these steps
abbrev pub OnlyStepsChange : List ℕ → ℕ → Machine → List Deed → List Step → Type 0
OnlyStepsChange homes cpu m deeds steps = leavings_last (changes_at homes cpu m deeds) ≡ changes_of steps

-- they leave these tasks, and who runs, as the steps do
abbrev pub StepsOfOneCpu : Type 0
StepsOfOneCpu =
    (homes : List ℕ) (m : Machine) (cpu : ℕ) (deeds : List Deed) (steps : List Step) → cpu < length m → OnlyStepsChange homes cpu m deeds steps
    → HaveSameRunnable (queue_at (machine_after homes m deeds) cpu) (after_steps (queue_at m cpu) steps)

-- so from a fresh start of its queue on the tasks that are left are fair
abbrev pub OneCpuStaysFair : Type 0
OneCpuStaysFair =
    (homes : List ℕ) (m : Machine) (cpu : ℕ) (deeds : List Deed) (v : ℤ) (ns : ℕ) (steps : List Step) → cpu < length m
    → OnlyStepsChange homes cpu m deeds steps → IsFresh v (queue_at m cpu).runnable → HaveNoLongerTurns ns steps
    → (t : ℕ) (e : Entry) → get (queue_at (machine_after homes m deeds) cpu).runnable t ≡ Some e
    → IsStillFair ns (queue_at (machine_after homes m deeds) cpu).runnable e

-- and where one task joins then, by a deed that leads to the machine `n`, and any such deeds come after it, so are the others
abbrev pub OneCpuJoinKeepsFair : Type 0
OneCpuJoinKeepsFair =
    (homes : List ℕ) (m n : Machine) (cpu : ℕ) (earlier deeds : List Deed) (v : ℤ) (ns : ℕ) (before steps : List Step) (task : ℕ) (s : Sleeper)
    → cpu < length m → cpu < length n → OnlyStepsChange homes cpu m earlier before → OnlyStepsChange homes cpu n deeds steps
    → IsFresh v (queue_at m cpu).runnable → HaveNoLongerTurns ns before → HaveNoLongerTurns ns steps
    → Joins (queue_at (machine_after homes m earlier) cpu) task s (queue_at n cpu)
    → (t : ℕ) (e : Entry) → (t ≡ task → ⊥) → get (queue_at (machine_after homes n deeds) cpu).runnable t ≡ Some e
    → IsFairAfterJoin ns (queue_at (machine_after homes m earlier) cpu).runnable s (queue_at (machine_after homes n deeds) cpu).runnable e
