use Rattle.eevdf_fairness.proofs.SetupDays as setup_days
use Rattle.eevdf_fairness.proofs.rebase_laws.setups_stay_in_range.Goals as goal

pub returns : goal.returns
returns c = setup_days.setups_stay_in_range c.opening_is_near.ensures c.machines_stay_in_range.ensures
