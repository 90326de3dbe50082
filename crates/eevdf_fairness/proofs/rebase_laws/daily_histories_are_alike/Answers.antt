use Rattle.eevdf_fairness.proofs.SetupDays as setup_days
use Rattle.eevdf_fairness.proofs.rebase_laws.daily_histories_are_alike.Goals as goal

pub returns : goal.returns
returns c = setup_days.daily_histories_are_alike c.setups_stay_in_range.ensures c.rebased_histories_are_alike.ensures
