use Rattle.eevdf_dozes.proofs.Later as later
use Rattle.eevdf_dozes.proofs.laws.nobody_gains_later.Goals as goal

pub returns : goal.returns
returns c = later.nobody_gains_later c.pick_is_first.ensures c.pick_of_nobody.ensures
