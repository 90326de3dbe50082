use Rattle.std.proofs.Common.{◌+◌, ◌-◌, ◌*◌, sym, arith}
use Rattle.eevdf_steps.proofs.Drains.{releases_at, ends_at}
use Rattle.eevdf_steps.proofs.lists_of_steps.drained_step.Goals as goal

pub returns-then-at-cpus : goal.returns-then-at-cpus
returns-then-at-cpus c = sym (releases_at c.args.cpus c.args.cpu c.args.at (omega arith))

pub returns-else-at-cpus : goal.returns-else-at-cpus
returns-else-at-cpus c = sym (ends_at c.args.cpus c.args.cpu c.args.at (c.args.at - (2 * c.args.cpus + 2)) (omega arith))
