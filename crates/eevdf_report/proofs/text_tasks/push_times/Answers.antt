use Rattle.std.proofs.{Common.append_assoc, Common.rules, lemmas.Result.IfOk-equal}
use Rattle.eevdf_report.specs.TextQueue.{times_text}
use Rattle.eevdf_report.proofs.text_tasks.push_times.Goals as goal

pub returns : goal.returns
unfolding times_text
returns c = search (rules, IfOk-equal, append_assoc)
