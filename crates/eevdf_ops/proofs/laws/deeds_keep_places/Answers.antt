use Rattle.eevdf_ops.proofs.WholePlaces as places
use Rattle.eevdf_ops.proofs.laws.deeds_keep_places.Goals as goal

pub returns : goal.returns
returns c = places.whole-placed
