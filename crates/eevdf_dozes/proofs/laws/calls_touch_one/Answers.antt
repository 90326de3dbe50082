use Rattle.eevdf_dozes.proofs.Touching as touching
use Rattle.eevdf_dozes.proofs.laws.calls_touch_one.Goals as goal

pub returns : goal.returns
returns c = touching.calls_touch_one
