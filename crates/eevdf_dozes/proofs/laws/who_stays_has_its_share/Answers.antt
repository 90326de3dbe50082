use Rattle.eevdf_dozes.proofs.Shares as shares
use Rattle.eevdf_dozes.proofs.laws.who_stays_has_its_share.Goals as goal

pub returns : goal.returns
returns c = shares.who_stays_has_its_share c.pick_is_first.ensures c.pick_of_nobody.ensures
