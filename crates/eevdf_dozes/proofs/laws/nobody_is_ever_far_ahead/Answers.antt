use Rattle.eevdf_dozes.proofs.Ahead as ahead
use Rattle.eevdf_dozes.proofs.laws.nobody_is_ever_far_ahead.Goals as goal

pub returns : goal.returns
returns c = ahead.nobody_is_ever_far_ahead c.pick_is_first.ensures c.pick_of_nobody.ensures
