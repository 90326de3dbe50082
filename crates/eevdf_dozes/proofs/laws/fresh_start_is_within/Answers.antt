use Rattle.eevdf_dozes.proofs.Bounds as bounds
use Rattle.eevdf_dozes.proofs.laws.fresh_start_is_within.Goals as goal

pub returns : goal.returns
returns c = bounds.fresh_start_is_within
