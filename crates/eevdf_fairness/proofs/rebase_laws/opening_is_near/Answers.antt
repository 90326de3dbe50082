use Rattle.eevdf_fairness.proofs.SetupDays as setup_days
use Rattle.eevdf_fairness.proofs.rebase_laws.opening_is_near.Goals as goal

pub returns : goal.returns
returns c = setup_days.opening_is_near c.opening_is_fresh.ensures
