use Rattle.eevdf_dozes.proofs.Gains as gains
use Rattle.eevdf_dozes.proofs.laws.none_runs_far_past.Goals as goal

pub returns : goal.returns
returns c = gains.none_runs_far_past c.pick_is_first.ensures c.pick_of_nobody.ensures
