use Rattle.eevdf_dozes.proofs.OneCpuHistories as histories
use Rattle.eevdf_dozes.proofs.laws.histories_go_on_so.Goals as goal

pub returns : goal.returns
returns c = histories.histories_go_on_so
