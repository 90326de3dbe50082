use Rattle.eevdf_dozes.proofs.Histories as histories
use Rattle.eevdf_dozes.proofs.laws.calls_are_stretch.Goals as goal

pub returns : goal.returns
returns c = histories.calls_are_stretch c.pick_is_first.ensures
