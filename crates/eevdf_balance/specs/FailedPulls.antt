-- Pulls that fail may be left out of a history.
use Rattle.std.specs.Prelude.{◌≡◌, ℕ, Bool, false, not, is_none, List}
use Rattle.std.specs.List.{filter}
use Rattle.eevdf_ops.specs.{declared.deeds.Deed.Deed, declared.deeds.Answer.Answer, declared.deeds.Line.Line}
use Rattle.eevdf_ops.specs.declared.deeds.Deed.TheVariants.{Pull}
use Rattle.eevdf_ops.specs.{Machine.Machine, Programs.deeds_of, Whole.lines_of, Whole.machine_after}
use Rattle.eevdf_balance.specs.Sweeps.{taken}

-- a pull that fails: it takes no task
abbrev pub has_failed : Deed → Answer → Bool
has_failed (Pull cpu source) answer = is_none (taken answer)
has_failed deed answer = false

-- the other lines, in order
abbrev pub without_failed : List Line → List Line
without_failed lines = filter (λ (l : Line). not (has_failed l.deed l.answer)) lines

-- and the deeds of these
abbrev pub effective : List ℕ → Machine → List Deed → List Deed
effective homes m deeds = deeds_of (without_failed (lines_of homes m deeds))

-- without them the others are answered the same, and leave the same machine
pub record CanBeLeftOut (homes : List ℕ) (m : Machine) (deeds : List Deed) : Type 0 where
  pub lines : lines_of homes m (effective homes m deeds) ≡ without_failed (lines_of homes m deeds)
  pub machine : machine_after homes m (effective homes m deeds) ≡ machine_after homes m deeds

abbrev pub FailedPullsCanBeLeftOut : Type 0
FailedPullsCanBeLeftOut = (homes : List ℕ) (m : Machine) (deeds : List Deed) → CanBeLeftOut homes m deeds
