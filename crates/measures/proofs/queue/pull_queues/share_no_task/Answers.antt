use Rattle.std.proofs.Common.{arith}
use Rattle.measures.proofs.ApartQueues.{apart_by_scan}
use Rattle.measures.proofs.queue.pull_queues.share_no_task.Goals as goal

pub returns : goal.returns
returns c = λ _. apart_by_scan c.args.first.now.state c.args.second.now.state c.every_queue.ensures (λ t below. c.loop-number.invariant t (omega arith))
