-- A pull that takes none changes nothing.
use Rattle.std.proofs.Common.{◌≡◌, ℕ, Bool, true, false, cond, not, List, [], ◌∷◌, refl, ap, subst}
use Rattle.std.specs.Prelude.{is_none, Option, Some, None}
use Rattle.eevdf_ops.specs.{declared.deeds.Deed.Deed, declared.deeds.Line.Line}
use Rattle.eevdf_ops.specs.declared.deeds.Deed.TheVariants.{Pull}
use Rattle.eevdf_ops.specs.{Machine.Machine, Programs.deeds_of, Whole.whole, Whole.lines_of, Whole.machine_after}
use Rattle.eevdf_balance.specs.{Sweeps.taken, FailedPulls.has_failed, FailedPulls.without_failed, FailedPulls.FailedPullsCanBeLeftOut}
use Rattle.eevdf_balance.proofs.Searching.{unmoved}

none_of : (o : Option ℕ) → is_none o ≡ true → o ≡ None
none_of None h = refl
none_of (Some t) h = cc

failed_stays : (homes : List ℕ) (m : Machine) (d : Deed) → has_failed d (whole homes d m).0 ≡ true → (whole homes d m).1 ≡ m
failed_stays homes m (Pull cpu source) h = unmoved homes m cpu source (none_of (taken (whole homes (Pull cpu source) m).0) h)
failed_stays homes m d h = cc

-- the rest is left out of what follows a machine, be it this one or the one before
abbrev IsLeftOut : List ℕ → Machine → List Line → Machine → Type 0
IsLeftOut homes m lines after = (lines_of homes m (deeds_of lines) ≡ lines) × (machine_after homes m (deeds_of lines) ≡ after)

by_first : (homes : List ℕ) (m : Machine) (d : Deed) (rest : List Line) (after : Machine) (b : Bool) → has_failed d (whole homes d m).0 ≡ b → IsLeftOut homes (whole homes d m).1 rest after
    → IsLeftOut homes m (cond (not b) (record { deed = d; answer = (whole homes d m).0 } ∷ rest) rest) after
by_first homes m d rest after true failed left = subst (λ (n : Machine). IsLeftOut homes n rest after) (failed_stays homes m d failed) left
by_first homes m d rest after false failed left = (ap (λ (ls : List Line). record { deed = d; answer = (whole homes d m).0 } ∷ ls) left.0, left.1)

left_out : (homes : List ℕ) (m : Machine) (deeds : List Deed) → IsLeftOut homes m (without_failed (lines_of homes m deeds)) (machine_after homes m deeds)
left_out homes m [] = (refl, refl)
left_out homes m (d ∷ ds) =
    by_first homes m d (without_failed (lines_of homes (whole homes d m).1 ds)) (machine_after homes m (d ∷ ds)) (has_failed d (whole homes d m).0) refl
    (left_out homes (whole homes d m).1 ds)

pub failed_pulls_can_be_left_out : FailedPullsCanBeLeftOut
failed_pulls_can_be_left_out homes m deeds = let l = left_out homes m deeds in record { lines = l.0; machine = l.1 }
