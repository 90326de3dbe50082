use Rattle.std.proofs.Common.{ℕ, refl, subst}
use Rattle.eevdf_ops.specs.declared.deeds.Deed.TheVariants.{Pick}
use Rattle.eevdf_fair_seat.specs.Turns.{GoesOn}
use Rattle.measures.proofs.BesideSeats.{goes_on}
use Rattle.measures.proofs.fair_seats.rounds.pick.Goals as goal

pub returns-clause-beside : goal.returns-clause-beside
returns-clause-beside g c =
    goes_on _ _ _ c.args.seat.now _ c.args.bound.now _ c.requires c.pick.ensures refl
    (subst (λ (k : ℕ). GoesOn c.args.bound.now (Pick k) c.see.new.self) c.cpu-cpu.ensures.cpu c.see.ensures.goes_on)
