use Rattle.std.proofs.Common.{ℕ, subst}
use Rattle.eevdf_ops.specs.declared.deeds.Deed.TheVariants.{Pick}
use Rattle.eevdf_fair_seat.specs.Turns.{BeginsAnew}
use Rattle.measures.proofs.BesideSeats.{begins}
use Rattle.measures.proofs.fair_seats.rounds.first_pick.Goals as goal

pub returns-clause-beside : goal.returns-clause-beside
returns-clause-beside g c =
    begins _ _ c.args.seat.now _ _ c.pick.ensures
    (subst (λ (k : ℕ). BeginsAnew (Pick k) c.see.new.self) c.cpu-cpu.ensures.cpu c.see.ensures.begins)
