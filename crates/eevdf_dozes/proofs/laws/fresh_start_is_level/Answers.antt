use Rattle.eevdf_dozes.proofs.Gains as gains
use Rattle.eevdf_dozes.proofs.laws.fresh_start_is_level.Goals as goal

pub returns : goal.returns
returns c = gains.fresh_start_is_level
