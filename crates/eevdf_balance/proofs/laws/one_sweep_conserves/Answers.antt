use Rattle.eevdf_balance.proofs.Sweeps.{one_sweep_conserves}
use Rattle.eevdf_balance.proofs.laws.one_sweep_conserves.Goals as goal

pub returns : goal.returns
returns c = one_sweep_conserves
