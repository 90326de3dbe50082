use Rattle.std.proofs.Common.{sym, ◌∙◌}
use Rattle.eevdf_fleet.proofs.SeatLists.{in-order-more}
use Rattle.eevdf_fleet.proofs.endless.fleet.Fleet.has_all_seats.Goals as goal

pub loop-number-preserved : goal.loop-number-preserved
loop-number-preserved g c =
    in-order-more (λ s. s.cpu) c.args.seats.now.items c.loop-number.number c.index.result.now c.loop-number.invariant c.index.ensures
    (sym (c.index-in-loop-number.ensures.number ∙ c.cpu.ensures.cpu) ∙ c.if-index-number.false)
