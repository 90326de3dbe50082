use Rattle.eevdf_dozes.proofs.SleepsAndDozes as dozes
use Rattle.eevdf_dozes.proofs.laws.dozes_are_sleeps.Goals as goal

pub returns : goal.returns
returns c = dozes.dozes_are_sleeps
