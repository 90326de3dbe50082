use Rattle.eevdf_dozes.proofs.Histories as histories
use Rattle.eevdf_dozes.proofs.laws.calls_begin_with_pick.Goals as goal

pub returns : goal.returns
returns c = histories.calls_begin_with_pick c.pick_is_first.ensures
