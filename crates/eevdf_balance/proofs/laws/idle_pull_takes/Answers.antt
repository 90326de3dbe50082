use Rattle.eevdf_balance.proofs.IdlePulls.{idle_pull_takes}
use Rattle.eevdf_balance.proofs.laws.idle_pull_takes.Goals as goal

pub returns : goal.returns
returns c = idle_pull_takes
