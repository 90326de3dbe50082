use Rattle.eevdf_fair_queue.proofs.Dozers.{wake_keeps_bounds}
use Rattle.eevdf_fair_queue.proofs.laws.wake_keeps_bounds.Goals as goal

pub returns : goal.returns
returns c = wake_keeps_bounds c.pick_is_first.ensures c.pick_of_nobody.ensures c.args.queue.now.state c.args.bounds c.args.task
