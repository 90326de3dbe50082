use Rattle.eevdf_ops.proofs.PartsHistories as parts
use Rattle.eevdf_ops.proofs.laws.history_by_parts.Goals as goal

pub returns : goal.returns
returns c = parts.history_by_parts
