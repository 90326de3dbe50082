-- A deed and its parts.
use Rattle.std.proofs.Common.{◌≡◌, ℕ, refl, subst}
use Rattle.std.specs.Prelude.{IfSome, Option, Some}
use Rattle.eevdf_ops.specs.{declared.deeds.Deed.Deed, declared.deeds.Op.Op, declared.origin.Origin.Origin, declared.origin.Origin.TheVariants.Operation, Origins.parts, Programs.deed_of}
use Rattle.eevdf_ops.specs.declared.deeds.Op.TheVariants as op

parts_by : (cpu : ℕ) (o : Op) → IfSome (deed_of cpu o) (λ (d : Deed). parts d ≡ (cpu, Operation o))
parts_by cpu (op.Post task) = tt
parts_by cpu op.Drain = tt
parts_by cpu o = refl

-- the deed of an operation comes from it
pub parts-of : (cpu : ℕ) (o : Op) (d : Deed) → deed_of cpu o ≡ Some d → parts d ≡ (cpu, Operation o)
parts-of cpu o d is = subst (λ (x : Option Deed). IfSome x (λ (e : Deed). parts e ≡ (cpu, Operation o))) is (parts_by cpu o)

-- the operation that a deed comes from, where it is none of a request
abbrev pub operation_in : Origin → Op
operation_in (Operation o) = o
operation_in other = op.Pick
