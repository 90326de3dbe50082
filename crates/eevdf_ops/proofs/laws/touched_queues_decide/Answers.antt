use Rattle.eevdf_ops.proofs.PartsProofs as parts
use Rattle.eevdf_ops.proofs.laws.touched_queues_decide.Goals as goal

pub returns : goal.returns
returns c = parts.touched_decide
