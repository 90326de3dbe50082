use Rattle.std.proofs.{Common.append_assoc, Common.rules, lemmas.Result.IfOk-equal}
use Rattle.eevdf_report.proofs.text_tasks.push_asleep_line.Goals as goal

pub returns : goal.returns
returns c = search (rules, IfOk-equal, append_assoc)
