use Rattle.std.proofs.Common.{◌<◌, ◌∙◌, arith}
use Rattle.eevdf_queue.proofs.Ascending.{at_end}
use Rattle.eevdf_queue.proofs.queue.Queue.runnable_from.Goals as goal

pub returns : goal.returns
returns c =
    c.loop-number.invariant
    ∙ at_end c.loop-number.number c.args.self.now.state.runnable
    (λ t e h. let below : t < 1024 = (c.keeps.ensures.in_range t e h).0 in omega arith)
