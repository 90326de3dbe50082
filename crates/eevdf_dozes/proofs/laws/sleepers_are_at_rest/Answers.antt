use Rattle.eevdf_dozes.proofs.Changes as changes
use Rattle.eevdf_dozes.proofs.laws.sleepers_are_at_rest.Goals as goal

pub returns : goal.returns
returns c = changes.sleepers_are_at_rest
