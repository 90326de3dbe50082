use Rattle.eevdf_balance.proofs.Squares.{pull_lowers_squares}
use Rattle.eevdf_balance.proofs.laws.pull_lowers_squares.Goals as goal

pub returns : goal.returns
returns c = pull_lowers_squares
