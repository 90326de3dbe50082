use Rattle.eevdf_balance.proofs.Crowds.{lines_tell_tasks}
use Rattle.eevdf_balance.proofs.laws.lines_tell_tasks.Goals as goal

pub returns : goal.returns
returns c = lines_tell_tasks
