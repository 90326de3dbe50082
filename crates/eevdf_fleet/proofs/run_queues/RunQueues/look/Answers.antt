use Rattle.std.proofs.Common.{rules}
use Rattle.eevdf_fleet.proofs.run_queues.RunQueues.look.Goals as goal

pub returns-clause-shown : goal.returns-clause-shown
returns-clause-shown g c = record { queue = c.behind-guard.inside.queue; state = search rules; gives = search rules }
