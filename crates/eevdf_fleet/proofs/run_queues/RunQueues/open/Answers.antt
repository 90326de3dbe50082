use Rattle.eevdf_fleet.proofs.run_queues.RunQueues.open.Goals as goal

pub returns : goal.returns
returns g c = c.with_room.ensures
