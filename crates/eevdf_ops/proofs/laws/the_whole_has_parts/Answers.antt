use Rattle.eevdf_ops.proofs.PartsProofs as parts
use Rattle.eevdf_ops.proofs.laws.the_whole_has_parts.Goals as goal

pub returns : goal.returns
returns c = parts.the_whole_has_parts
