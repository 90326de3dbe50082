-- The history, as it is kept.
use Rattle.std.specs.Prelude.{ℕ, List, [], ◌∷◌, ◌++◌, Option}
use Rattle.eevdf_ops.specs.declared.deeds.{Deed.Deed, Answer.Answer, Line.Line}
use Rattle.eevdf_steps.specs.MicroState.{line_of}

-- the lines, and for how many there is room
pub record Journal : Type 0 where
  pub lines : List Line
  pub room : ℕ

abbrev pub added : Journal → Deed → Answer → Journal
added j deed answer = record j { lines = j.lines ++ record { deed = deed; answer = answer } ∷ [] }

-- the line of a deed and an answer is added, where there are both
abbrev pub noted : Journal → Option Deed → Option Answer → Journal
noted j deed answer = record j { lines = j.lines ++ line_of deed answer }
