use Rattle.eevdf_ops.proofs.LocalParts as parts
use Rattle.eevdf_ops.proofs.laws.others_stay.Goals as goal

pub returns : goal.returns
returns c = parts.others_stay
