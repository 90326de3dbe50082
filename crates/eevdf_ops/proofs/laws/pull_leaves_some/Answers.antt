use Rattle.eevdf_ops.proofs.PullLaws as pulls
use Rattle.eevdf_ops.proofs.laws.pull_leaves_some.Goals as goal

pub returns : goal.returns
returns c = pulls.pull_leaves_some
