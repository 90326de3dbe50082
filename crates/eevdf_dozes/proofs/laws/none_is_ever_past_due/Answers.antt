use Rattle.eevdf_dozes.proofs.DueTasks as due
use Rattle.eevdf_dozes.proofs.laws.none_is_ever_past_due.Goals as goal

pub returns : goal.returns
returns c = due.none_is_ever_past_due
