use Rattle.eevdf_dozes.proofs.Changes as changes
use Rattle.eevdf_dozes.proofs.laws.others_may_be_touched.Goals as goal

pub returns : goal.returns
returns c = changes.others_may_be_touched
