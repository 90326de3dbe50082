use Rattle.eevdf_balance.proofs.AfterLastPull.{balanced_refuses_candidate}
use Rattle.eevdf_balance.proofs.laws.balanced_refuses_candidate.Goals as goal

pub returns : goal.returns
returns c = balanced_refuses_candidate
