use Rattle.eevdf_dozes.proofs.Apart as apart
use Rattle.eevdf_dozes.proofs.laws.least_weight_is_15.Goals as goal

pub returns : goal.returns
returns c = apart.least_weight_is_15
