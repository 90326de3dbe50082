use Rattle.eevdf_dozes.proofs.Punctual as punctual
use Rattle.eevdf_dozes.proofs.laws.requests_stay_punctual.Goals as goal

pub returns : goal.returns
returns c = punctual.requests_stay_punctual c.pick_is_first.ensures c.pick_of_nobody.ensures
