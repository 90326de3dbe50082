use Rattle.eevdf_balance.proofs.IdlePulls.{lone_pull_is_refused}
use Rattle.eevdf_balance.proofs.laws.lone_pull_is_refused.Goals as goal

pub returns : goal.returns
returns c = lone_pull_is_refused
