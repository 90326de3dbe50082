use Rattle.toml.specs.View.{table_view}
use Rattle.eevdf_workload.proofs.ReadingByFronts.{order_behind, order_found}
use Rattle.eevdf_workload.proofs.reading.by_front.order_beside.Goals as goal

pub returns-in-Some : goal.returns-in-Some
returns-in-Some c d whole is at = order_found c.in-Some.order.items d _ whole (rw c.in-Some.is at is) at

pub returns-in-None : goal.returns-in-None
returns-in-None c = rw c.in-None.is (order_behind (table_view c.args.document) c.order.result c.order.ensures)
