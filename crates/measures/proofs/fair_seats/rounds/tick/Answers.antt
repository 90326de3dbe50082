use Rattle.std.proofs.Common.{ℕ, refl, subst}
use Rattle.eevdf_ops.specs.declared.deeds.Deed.TheVariants.{Tick}
use Rattle.eevdf_fair_seat.specs.Turns.{GoesOn}
use Rattle.measures.proofs.BesideSeats.{goes_on}
use Rattle.measures.proofs.fair_seats.rounds.tick.Goals as goal

pub returns-clause-beside : goal.returns-clause-beside
returns-clause-beside g c =
    goes_on _ _ _ c.args.seat.now _ c.args.bound.now _ c.requires c.tick.ensures refl
    (subst (λ (k : ℕ). GoesOn c.args.bound.now (Tick k c.args.ns) c.see.new.self) c.cpu-cpu.ensures.cpu c.see.ensures.goes_on)
