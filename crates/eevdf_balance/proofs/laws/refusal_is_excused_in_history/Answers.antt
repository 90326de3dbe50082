use Rattle.eevdf_balance.proofs.Excuses.{refusal_is_excused_in_history}
use Rattle.eevdf_balance.proofs.laws.refusal_is_excused_in_history.Goals as goal

pub returns : goal.returns
returns c = refusal_is_excused_in_history
