use Rattle.eevdf_c.proofs.Emptied.{gone_after}
use Rattle.eevdf_c.proofs.calls.closing.end_number.Goals as goal

pub returns-in-Some-clause-gone : goal.returns-in-Some-clause-gone
returns-in-Some-clause-gone c =
    gone_after c.args.queue.now.state c.end_task.new.queue.state c.args.number c.in-Some.task c.new.result c.new.ensures c.in-Some.is c.end_task.ensures.after c.every_queue.ensures c.requires.before
