use Rattle.eevdf_balance.proofs.Excuses.{stale_look_is_excused}
use Rattle.eevdf_balance.proofs.laws.stale_look_is_excused.Goals as goal

pub returns : goal.returns
returns c = stale_look_is_excused
