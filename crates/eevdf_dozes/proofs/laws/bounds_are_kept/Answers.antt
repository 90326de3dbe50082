use Rattle.eevdf_dozes.proofs.Bounds as bounds
use Rattle.eevdf_dozes.proofs.laws.bounds_are_kept.Goals as goal

pub returns : goal.returns
returns c = bounds.bounds_are_kept
