-- How many tasks a CPU has, and by which lines of a history a task comes there or goes.
use Rattle.std.specs.Prelude.{◌≡◌, ℕ, ◌+◌, ◌≤◌, ◌==◌, Bool, false, List, [], ◌∷◌}
use Rattle.std.specs.FinMap as map
use Rattle.eevdf_ops.specs.{declared.deeds.Deed.Deed, declared.deeds.Answer.Answer, declared.deeds.Line.Line}
use Rattle.eevdf_ops.specs.declared.deeds.Deed.TheVariants.{Sleep, Doze, Wake, Pull, End}
use Rattle.eevdf_ops.specs.declared.deeds.Answer.TheVariants.{Slept, Woken, Pulled, Ended}
use Rattle.eevdf_ops.specs.{Machine.Machine, Machine.queue_at, Places.count, Whole.lines_of, Whole.machine_after}

-- the runnable tasks of a CPU, the one that runs too
abbrev pub tasks_at : Machine → ℕ → ℕ
tasks_at m cpu = map.len (queue_at m cpu).runnable

-- a CPU has nothing to run
abbrev pub IsIdle : Machine → ℕ → Type 0
IsIdle m cpu = tasks_at m cpu ≡ 0

-- a CPU has a task that another one could run
abbrev pub IsCrowded : Machine → ℕ → Type 0
IsCrowded m cpu = 2 ≤ tasks_at m cpu

-- a task comes to a CPU: it wakes there, or the CPU pulls it
abbrev pub comes : ℕ → Deed → Answer → Bool
comes c (Wake cpu task sender) Woken = cpu == c
comes c (Pull cpu source) (Pulled task) = cpu == c
comes c deed answer = false

-- a task of a CPU is done there for now: it falls asleep, dozes off or ends
abbrev pub leaves : ℕ → Deed → Answer → Bool
leaves c (Sleep cpu task) (Slept lag) = cpu == c
leaves c (Doze cpu task) (Slept lag) = cpu == c
leaves c (End cpu task) Ended = cpu == c
leaves c deed answer = false

-- a task goes from a CPU: it is done there for now, or another CPU pulls it
abbrev pub goes : ℕ → Deed → Answer → Bool
goes c (Pull cpu source) (Pulled task) = source == c
goes c deed answer = leaves c deed answer

-- by how many lines a task comes to a CPU
abbrev pub comings : ℕ → List Line → ℕ
comings c [] = 0
comings c (l ∷ ls) = count (comes c l.deed l.answer) + comings c ls

-- and by how many one goes from there
abbrev pub goings : ℕ → List Line → ℕ
goings c [] = 0
goings c (l ∷ ls) = count (goes c l.deed l.answer) + goings c ls

-- after any deeds a CPU has no more tasks than before and those that came, and no fewer than those before without those that went
pub record AreTold (homes : List ℕ) (m : Machine) (deeds : List Deed) (cpu : ℕ) : Type 0 where
  pub most : tasks_at (machine_after homes m deeds) cpu ≤ tasks_at m cpu + comings cpu (lines_of homes m deeds)
  pub least : tasks_at m cpu ≤ tasks_at (machine_after homes m deeds) cpu + goings cpu (lines_of homes m deeds)

abbrev pub LinesTellTasks : Type 0
LinesTellTasks = (homes : List ℕ) (m : Machine) (deeds : List Deed) (cpu : ℕ) → AreTold homes m deeds cpu
