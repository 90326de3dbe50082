-- Turns and rebases: each task stays as fair as by turns alone.
use Rattle.std.specs.Prelude.{ℕ, ◌<◌, ℤ, ◌-ℤ◌, List, [], ◌∷◌, length}
use Rattle.eevdf_queue.specs.State.{State}
use Rattle.eevdf_ops.specs.{declared.deeds.Deed.Deed, Machine.Machine, Machine.queue_at, Whole.machine_after}
use Rattle.eevdf_fairness.specs.{Turns.IsFresh, Fair.AllAreFair, Anywhere.NoneIsPast, Anywhere.AllAreFairPast, OneCpuSteps.OnlyStepsChange}
use Rattle.eevdf_fairness.specs.Leavings.{Step, Takes, Leaves, Rebases, after_steps, lowered_by, HaveNoLongerTurns}

-- steps that are turns and rebases alone
abbrev pub NobodyLeaves : List Step → Type 0
NobodyLeaves [] = Unit {0}
NobodyLeaves (Takes turn ∷ steps) = NobodyLeaves steps
NobodyLeaves (Leaves task ∷ steps) = ⊥
NobodyLeaves (Rebases ∷ steps) = NobodyLeaves steps

-- from a fresh start each task is fair after any turns and rebases
abbrev pub RebasedTurnsAreFair : Type 0
RebasedTurnsAreFair =
    (q : State) (v : ℤ) (ns : ℕ) (steps : List Step) → NobodyLeaves steps → IsFresh v q.runnable → HaveNoLongerTurns ns steps
    → AllAreFair ns (after_steps q steps).runnable

-- and from any state, counted from a front that no virtual runtime is past there, and that the rebases lower too
abbrev pub RebasedTurnsAreFairAnywhere : Type 0
RebasedTurnsAreFairAnywhere =
    (q : State) (front : ℤ) (ns : ℕ) (steps : List Step) → NobodyLeaves steps → NoneIsPast front q.runnable → HaveNoLongerTurns ns steps
    → AllAreFairPast (front -ℤ lowered_by q steps) ns (after_steps q steps).runnable

-- so it is of a CPU of a machine, where of the deeds of all CPUs those that change its runnable tasks, or who runs there, are these
abbrev pub RebasedCpuIsFair : Type 0
RebasedCpuIsFair =
    (homes : List ℕ) (m : Machine) (cpu : ℕ) (deeds : List Deed) (v : ℤ) (ns : ℕ) (steps : List Step) → cpu < length m
    → OnlyStepsChange homes cpu m deeds steps → NobodyLeaves steps → IsFresh v (queue_at m cpu).runnable → HaveNoLongerTurns ns steps
    → AllAreFair ns (queue_at (machine_after homes m deeds) cpu).runnable

abbrev pub RebasedCpuIsFairAnywhere : Type 0
RebasedCpuIsFairAnywhere =
    (homes : List ℕ) (m : Machine) (cpu : ℕ) (deeds : List Deed) (front : ℤ) (ns : ℕ) (steps : List Step) → cpu < length m
    → OnlyStepsChange homes cpu m deeds steps → NobodyLeaves steps → NoneIsPast front (queue_at m cpu).runnable → HaveNoLongerTurns ns steps
    → AllAreFairPast (front -ℤ lowered_by (queue_at m cpu) steps) ns (queue_at (machine_after homes m deeds) cpu).runnable
