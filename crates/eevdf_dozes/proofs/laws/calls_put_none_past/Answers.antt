use Rattle.eevdf_dozes.proofs.PutPast as put_past
use Rattle.eevdf_dozes.proofs.laws.calls_put_none_past.Goals as goal

pub returns : goal.returns
returns c = put_past.calls_put_none_past
