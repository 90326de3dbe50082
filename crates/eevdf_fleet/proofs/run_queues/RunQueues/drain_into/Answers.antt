use Rattle.eevdf_fleet.proofs.SenderTurns.{drained-seen, listed-same, listed-weaker}
use Rattle.eevdf_fleet.proofs.run_queues.RunQueues.drain_into.Goals as goal

pub returns-clause-drained : goal.returns-clause-drained
returns-clause-drained g c = drained-seen _ _ _ _ c.drain_all-drained.ensures.drained c.see.ensures.seat

pub returns-clause-listed : goal.returns-clause-listed
returns-clause-listed g c =
    listed-same _ c.args.seat.now.seat c.drain_all-drained.new.seat.seat c.see.new.seat.seat
    (listed-weaker _ _ c.args.seat.now.seat c.drain_all-drained.new.seat.seat (λ wakes holds. holds.0) c.drain_all-drained.ensures.listed)
    c.see.ensures.seat.seat

pub returns-clause-capacity : goal.returns-clause-capacity
returns-clause-capacity g c = c.drain_all-drained.ensures.listed.holds.1
