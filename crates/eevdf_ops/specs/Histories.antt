-- The history that lines tell, and an outcome that is one.
use Rattle.std.specs.Prelude.{◌≡◌, ℕ, List}
use Rattle.eevdf_ops.specs.{declared.deeds.Deed.Deed, declared.deeds.Line.Line, Machine.Machine, Outcome.Outcome}
use Rattle.eevdf_ops.specs.{Outcome.machine_of, Programs.deeds_of, Whole.lines_of, Whole.machine_after}

-- the machine that the deeds of lines leave, done as whole operations one after the other
abbrev pub machine_told : List ℕ → Machine → List Line → Machine
machine_told homes start lines = machine_after homes start (deeds_of lines)

-- the answer of each line is that of its deed, done as a whole operation after those before it
abbrev pub AreHistory : List ℕ → Machine → List Line → Type 0
AreHistory homes start lines = lines ≡ lines_of homes start (deeds_of lines)

-- an outcome of the one thread that does these deeds one after the other, each as a whole operation
pub record IsOneThread (homes : List ℕ) (start : Machine) (deeds : List Deed) (o : Outcome) : Type 0 where
  pub deeds_are : deeds_of o.lines ≡ deeds
  pub lines : o.lines ≡ lines_of homes start deeds
  pub machine : machine_of o.queues ≡ machine_after homes start deeds
