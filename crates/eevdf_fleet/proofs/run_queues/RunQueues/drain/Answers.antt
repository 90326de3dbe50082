use Rattle.eevdf_fleet.proofs.run_queues.RunQueues.drain.Goals as goal

pub drain_all-requires-clause-list : goal.drain_all-requires-clause-list
drain_all-requires-clause-list g c = c.self.invariant.3
