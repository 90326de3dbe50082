use Rattle.eevdf_fairness.proofs.Lines as lines
use Rattle.eevdf_fairness.proofs.laws.lines_tell_time.Goals as goal

pub returns : goal.returns
returns c = lines.lines_tell_time c.others_stay.ensures
