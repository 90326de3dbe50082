use Rattle.std.proofs.Common.{rules}
use Rattle.eevdf_orders.proofs.ordered_workload.with_order.Goals as goal

pub returns-in-Ok-ordered-clause-ordered : goal.returns-in-Ok-ordered-clause-ordered
returns-in-Ok-ordered-clause-ordered c = record {
  workload = c.args.workload.now;
  read = c.requires;
  fresh = search rules;
  order = c.in-Ok.order.items;
  faultless = search rules;
  chosen = search rules;
  text_is = search rules;
}
