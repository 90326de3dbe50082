use Rattle.eevdf_weight.proofs.Inverses.{inverses, table_inverse}
use Rattle.eevdf_weight.proofs.level_charging.inverse.Goals as goal

pub returns : goal.returns
unfolding inverses
returns c = table_inverse c.args.nice c.place.result c.place.ensures.place c.place.ensures.within
