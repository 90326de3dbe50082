use Rattle.eevdf_balance.proofs.Excuses.{refusal_is_excused}
use Rattle.eevdf_balance.proofs.laws.refusal_is_excused.Goals as goal

pub returns : goal.returns
returns c = refusal_is_excused
