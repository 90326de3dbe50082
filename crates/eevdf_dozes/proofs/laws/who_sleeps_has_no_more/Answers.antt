use Rattle.eevdf_dozes.proofs.Shares as shares
use Rattle.eevdf_dozes.proofs.laws.who_sleeps_has_no_more.Goals as goal

pub returns : goal.returns
returns c = shares.who_sleeps_has_no_more c.pick_is_first.ensures c.pick_of_nobody.ensures
