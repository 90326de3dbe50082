-- The deed of an operation on a CPU is one of that CPU, and allowed where the setup has what the operation names.
use Rattle.std.proofs.Common.{◌≡◌, ℕ, ◌<◌, true, sym, ap, subst}
use Rattle.std.proofs.lemmas.Bool.{and_from, lt-ltb}
use Rattle.std.specs.Prelude.{nat_lt, ◌&&◌, Some}
use Rattle.eevdf_ops.specs.{declared.deeds.Op.Op, declared.deeds.Deed.Deed, declared.origin.Origin.Origin, Origins.decider, Programs.deed_of}
use Rattle.eevdf_ops.specs.Setup.{Setup, allows, cpus_of, has_origin, homes_of}
use Rattle.eevdf_ops.proofs.Origins.{parts-of}
use Rattle.eevdf_fleet.specs.Tried.{has_what}

pub own-deed : (cpu : ℕ) (o : Op) (d : Deed) → deed_of cpu o ≡ Some d → decider d ≡ cpu
own-deed cpu o d is = ap (λ (x : ℕ × Origin). x.0) (parts-of cpu o d is)

pub allowed-deed : (s : Setup) (cpu : ℕ) (o : Op) (d : Deed) → cpu < cpus_of s → has_what s cpu o ≡ true → deed_of cpu o ≡ Some d → allows s d ≡ true
allowed-deed s cpu o d below has is =
    subst (λ (x : ℕ × Origin). (nat_lt x.0 (cpus_of s) && has_origin (cpus_of s) (homes_of s) x.0 x.1) ≡ true) (sym (parts-of cpu o d is))
    (and_from _ _ (lt-ltb cpu (cpus_of s) below) has)
