use Rattle.eevdf_fair_queue.proofs.Dozers.{dozes_behind}
use Rattle.eevdf_fair_queue.proofs.laws.dozes_behind.Goals as goal

pub returns : goal.returns
returns c = dozes_behind c.args.queue.now.state c.args.bounds c.args.task
