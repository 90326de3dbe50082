use Rattle.eevdf_dozes.proofs.Ahead as ahead
use Rattle.eevdf_dozes.proofs.laws.nobody_ever_gains.Goals as goal

pub returns : goal.returns
returns c = ahead.nobody_ever_gains c.pick_is_first.ensures c.pick_of_nobody.ensures
