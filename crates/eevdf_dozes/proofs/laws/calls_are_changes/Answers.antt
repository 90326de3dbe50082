use Rattle.eevdf_dozes.proofs.Changes as changes
use Rattle.eevdf_dozes.proofs.laws.calls_are_changes.Goals as goal

pub returns : goal.returns
returns c = changes.calls_are_changes
