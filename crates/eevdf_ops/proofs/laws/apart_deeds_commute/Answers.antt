use Rattle.eevdf_ops.proofs.PartsProofs as parts
use Rattle.eevdf_ops.proofs.laws.apart_deeds_commute.Goals as goal

pub returns : goal.returns
returns c = parts.apart_deeds_commute
