use Rattle.eevdf_dozes.proofs.Gains as gains
use Rattle.eevdf_dozes.proofs.laws.nobody_gains.Goals as goal

pub returns : goal.returns
returns c = gains.nobody_gains c.pick_is_first.ensures c.pick_of_nobody.ensures
