use Rattle.eevdf_ops.proofs.PartsProofs as parts
use Rattle.eevdf_ops.proofs.laws.parts_make_the_whole.Goals as goal

pub returns : goal.returns
returns c = parts.parts_make_the_whole
