use Rattle.eevdf_dozes.proofs.Apart as apart
use Rattle.eevdf_dozes.proofs.laws.nobody_is_ever_far_apart.Goals as goal

pub returns : goal.returns
returns c = apart.nobody_is_ever_far_apart c.pick_is_first.ensures c.pick_of_nobody.ensures
