use Rattle.eevdf_fair_queue.proofs.Empty.{nobody_is_fair}
use Rattle.eevdf_fair_queue.proofs.bounds.Bounds.fresh.Goals as goal

pub returns-clause-fair : goal.returns-clause-fair
returns-clause-fair c = nobody_is_fair
