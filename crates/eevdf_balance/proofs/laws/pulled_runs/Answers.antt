use Rattle.eevdf_balance.proofs.Runs as runs
use Rattle.eevdf_balance.proofs.laws.pulled_runs.Goals as goal

pub returns : goal.returns
returns c = runs.pulled_runs c.pick_is_first.ensures c.pick_of_nobody.ensures
