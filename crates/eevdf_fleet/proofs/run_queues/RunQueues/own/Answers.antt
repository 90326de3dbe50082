use Rattle.std.proofs.Common.{refl, subst}
use Rattle.eevdf_fleet.specs.Fleets.{HasCommitted, Parts, parts_of}
use Rattle.eevdf_fleet.proofs.SeatParts.{parts-committed, parts-of, parts-written}
use Rattle.eevdf_fleet.proofs.run_queues.RunQueues.own.Goals as goal

pub invariant_of-seat : goal.invariant_of-seat
invariant_of-seat g c =
    parts-of g.N.Names.kit _ _ _ _ _ _ _ (parts-written _ _ _ _ _ _ c.seat.invariant.0 c.requires.no_wake c.done_on_one.ensures.log) c.seat.invariant

pub returns : goal.returns
returns g c =
    subst (λ (p : Parts). HasCommitted p (parts_of c.done_on_one.new.log c.seat.inside.producers) (record { deed = c.args.deed.now; answer = c.done_on_one.result })) c.seat.view_is
    (parts-committed _ _ c.seat.inside.producers _ _ c.done_on_one.ensures.log refl)
