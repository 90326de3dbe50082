use Rattle.toml.specs.Data.{array}
use Rattle.eevdf_workload.proofs.ReadingPlainLists.{found_so, order_read}
use Rattle.eevdf_workload.proofs.reading.plain_lists.order_at.Goals as goal

pub returns-clause-value : goal.returns-clause-value
returns-clause-value c = found_so _ _ (λ p is. (array is.0, is.1, order_read is.0 p.0.items is.2)) c.array_at.result c.array_at.ensures.value
