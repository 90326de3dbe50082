use Rattle.eevdf_dozes.proofs.Ahead as ahead
use Rattle.eevdf_dozes.proofs.laws.fresh_start_is_ahead_of_nobody.Goals as goal

pub returns : goal.returns
returns c = ahead.fresh_start_is_ahead_of_nobody
