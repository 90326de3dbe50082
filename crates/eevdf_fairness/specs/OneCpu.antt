-- Turns of one CPU of a machine, among whatever the other CPUs do.
use Rattle.std.specs.Prelude.{◌≡◌, ℕ, ◌<◌, ℤ, List, [], ◌∷◌, ◌++◌, length}
use Rattle.std.specs.List.{filter}
use Rattle.eevdf_ops.specs.{declared.deeds.Deed.Deed, declared.deeds.Deed.TheVariants.Tick, declared.deeds.Deed.TheVariants.Pick}
use Rattle.eevdf_ops.specs.{Machine.Machine, Machine.queue_at, Parts.touches, Whole.machine_after}
use Rattle.eevdf_fairness.specs.{Turns.Turn, Turns.AreNoLonger, Turns.IsFresh, Turns.after_turns, Fair.AllAreFair}
use Rattle.eevdf_fairness.specs.Anywhere.{NoneIsPast, AllAreFairPast}

-- the deeds of ticks on a CPU, and of turns: each is a pick and then its ticks
abbrev pub ticks_on : ℕ → Turn → List Deed
ticks_on cpu [] = []
ticks_on cpu (ns ∷ turn) = Tick cpu ns ∷ ticks_on cpu turn

abbrev pub turns_on : ℕ → List Turn → List Deed
turns_on cpu [] = []
turns_on cpu (turn ∷ turns) = Pick cpu ∷ (ticks_on cpu turn ++ turns_on cpu turns)

-- of deeds those that read or write the queue of a CPU, in order
abbrev pub touching : List ℕ → ℕ → List Deed → List Deed
touching homes cpu deeds = filter (λ (d : Deed). touches homes d cpu) deeds

-- deeds of all CPUs, of which those that touch this CPU's queue are its turns
abbrev pub OnlyTurnsTouch : List ℕ → ℕ → List Deed → List Turn → Type 0
OnlyTurnsTouch homes cpu deeds turns = touching homes cpu deeds ≡ turns_on cpu turns

-- they leave its queue as the turns do
abbrev pub TurnsOfOneCpu : Type 0
TurnsOfOneCpu =
    (homes : List ℕ) (m : Machine) (cpu : ℕ) (deeds : List Deed) (turns : List Turn) → cpu < length m → OnlyTurnsTouch homes cpu deeds turns
    → queue_at (machine_after homes m deeds) cpu ≡ after_turns (queue_at m cpu) turns

-- so each task of a CPU is fair, from a fresh start of its queue on, while nothing but its turns touches that
abbrev pub OneCpuIsFair : Type 0
OneCpuIsFair =
    (homes : List ℕ) (m : Machine) (cpu : ℕ) (deeds : List Deed) (v : ℤ) (ns : ℕ) (turns : List Turn) → cpu < length m
    → OnlyTurnsTouch homes cpu deeds turns → IsFresh v (queue_at m cpu).runnable → AreNoLonger ns turns
    → AllAreFair ns (queue_at (machine_after homes m deeds) cpu).runnable

-- and so it is from any state of its queue on, counted from a front that no virtual runtime is past there
abbrev pub OneCpuIsFairAnywhere : Type 0
OneCpuIsFairAnywhere =
    (homes : List ℕ) (m : Machine) (cpu : ℕ) (deeds : List Deed) (front : ℤ) (ns : ℕ) (turns : List Turn) → cpu < length m
    → OnlyTurnsTouch homes cpu deeds turns → NoneIsPast front (queue_at m cpu).runnable → AreNoLonger ns turns
    → AllAreFairPast front ns (queue_at (machine_after homes m deeds) cpu).runnable
