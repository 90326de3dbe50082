use Rattle.eevdf_ops.proofs.PartsProofs as parts
use Rattle.eevdf_ops.proofs.laws.wake_is_local.Goals as goal

pub returns : goal.returns
returns c = parts.wake_is_local
