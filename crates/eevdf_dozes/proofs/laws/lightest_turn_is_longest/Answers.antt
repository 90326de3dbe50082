use Rattle.eevdf_dozes.proofs.Punctual as punctual
use Rattle.eevdf_dozes.proofs.laws.lightest_turn_is_longest.Goals as goal

pub returns : goal.returns
returns c = punctual.lightest_turn_is_longest
