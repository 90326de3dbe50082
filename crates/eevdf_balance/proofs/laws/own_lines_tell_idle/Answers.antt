use Rattle.eevdf_balance.proofs.Tries.{own_lines_tell_idle}
use Rattle.eevdf_balance.proofs.laws.own_lines_tell_idle.Goals as goal

pub returns : goal.returns
returns c = own_lines_tell_idle
