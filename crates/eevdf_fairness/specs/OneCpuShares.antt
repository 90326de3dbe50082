-- The shares of one CPU's tasks, while of the deeds of all CPUs those that change its runnable tasks, or who runs there, are its turns.
use Rattle.std.specs.Prelude.{◌≡◌, ℕ, ◌<◌, ℤ, List, length, map, Some}
use Rattle.std.specs.FinMap.{get}
use Rattle.eevdf_queue.specs.{declared.entry.Entry.Entry}
use Rattle.eevdf_ops.specs.{declared.deeds.Deed.Deed, Machine.Machine, Machine.queue_at, Whole.lines_of, Whole.machine_after}
use Rattle.eevdf_fairness.specs.{Turns.Turn, Turns.AreNoLonger, Turns.IsFresh, Leavings.Takes, OneCpuSteps.changes_at, OneCpuSteps.changes_of}
use Rattle.eevdf_fairness.specs.{Anywhere.NoneIsPast, Healing.HasNotYielded, Healing.HasCaughtUp, Lines.TellTime, Lines.HasItsShareOfLines}

-- deeds of all CPUs, of which those that change this CPU's runnable tasks, or who runs there, are its turns
abbrev pub OnlyTurnsChange : List ℕ → ℕ → Machine → List Deed → List Turn → Type 0
OnlyTurnsChange homes cpu m deeds turns = changes_at homes cpu m deeds ≡ changes_of (map Takes turns)

-- their lines tell the time of these turns
abbrev pub ChangesTellTime : Type 0
ChangesTellTime =
    (homes : List ℕ) (m : Machine) (cpu : ℕ) (deeds : List Deed) (turns : List Turn) → cpu < length m → OnlyTurnsChange homes cpu m deeds turns
    → TellTime cpu (lines_of homes m deeds) (queue_at m cpu) turns

-- after a fresh start of a CPU's queue, over any stretch of a history in which nothing but its turns changes its tasks or who runs there
abbrev pub ChangesGiveShares : Type 0
ChangesGiveShares =
    (homes : List ℕ) (m : Machine) (cpu : ℕ) (earlier deeds : List Deed) (v : ℤ) (ns : ℕ) (before turns : List Turn) → cpu < length m
    → OnlyTurnsChange homes cpu m earlier before → OnlyTurnsChange homes cpu (machine_after homes m earlier) deeds turns
    → IsFresh v (queue_at m cpu).runnable → AreNoLonger ns before → AreNoLonger ns turns
    → (t : ℕ) (e : Entry) → get (queue_at (machine_after homes m earlier) cpu).runnable t ≡ Some e
    → HasItsShareOfLines ns cpu (lines_of homes (machine_after homes m earlier) deeds) (queue_at (machine_after homes m earlier) cpu) turns t e

-- and so it is from any state on, where no request was longer than a slice, once the CPU has caught up with a front that no task was past
abbrev pub HealedChangesGiveShares : Type 0
HealedChangesGiveShares =
    (homes : List ℕ) (m : Machine) (cpu : ℕ) (earlier deeds : List Deed) (front : ℤ) (ns : ℕ) (before turns : List Turn) → cpu < length m
    → OnlyTurnsChange homes cpu m earlier before → OnlyTurnsChange homes cpu (machine_after homes m earlier) deeds turns
    → NoneIsPast front (queue_at m cpu).runnable → ((t : ℕ) (e : Entry) → get (queue_at m cpu).runnable t ≡ Some e → HasNotYielded e)
    → AreNoLonger ns before → AreNoLonger ns turns → HasCaughtUp front ns (queue_at m cpu) before
    → (t : ℕ) (e : Entry) → get (queue_at (machine_after homes m earlier) cpu).runnable t ≡ Some e
    → HasItsShareOfLines ns cpu (lines_of homes (machine_after homes m earlier) deeds) (queue_at (machine_after homes m earlier) cpu) turns t e
