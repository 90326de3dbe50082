use Rattle.eevdf_balance.proofs.OncePerTurn as turns
use Rattle.eevdf_balance.proofs.laws.pulled_once_per_turn.Goals as goal

pub returns : goal.returns
returns c = turns.pulled_once_per_turn c.pick_is_first.ensures c.pick_of_nobody.ensures
