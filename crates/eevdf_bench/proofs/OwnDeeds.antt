-- An outcome that is one thread's is so by the deeds of its own lines.
use Rattle.std.proofs.Common.{ℕ, List, sym, subst}
use Rattle.eevdf_ops.specs.{declared.deeds.Deed.Deed, Histories.IsOneThread, Machine.Machine, Outcome.Outcome, Programs.deeds_of}

pub own_deeds : (homes : List ℕ) (start : Machine) (deeds : List Deed) (o : Outcome) → IsOneThread homes start deeds o → IsOneThread homes start (deeds_of o.lines) o
own_deeds homes start deeds o one = subst (λ (ds : List Deed). IsOneThread homes start ds o) (sym one.deeds_are) one
