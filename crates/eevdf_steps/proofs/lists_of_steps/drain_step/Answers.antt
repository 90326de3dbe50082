use Rattle.std.proofs.Common.{sym, arith}
use Rattle.eevdf_steps.proofs.Drains.{takes_at, settles_at}
use Rattle.eevdf_steps.proofs.lists_of_steps.drain_step.Goals as goal

pub returns-then-at-eq1 : goal.returns-then-at-eq1
returns-then-at-eq1 c = sym (takes_at c.args.cpus c.args.cpu c.numbered-sender.result c.args.at (omega arith) (omega arith))

pub returns-else-at-eq1 : goal.returns-else-at-eq1
returns-else-at-eq1 c = sym (settles_at c.args.cpus c.args.cpu c.numbered-sender.result c.args.at (omega arith) (omega arith))
