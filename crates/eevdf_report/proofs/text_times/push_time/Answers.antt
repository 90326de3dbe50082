use Rattle.std.proofs.{Common.append_assoc, Common.rules, lemmas.Result.IfOk-equal}
use Rattle.eevdf_report.specs.TextTimes.{time_text}
use Rattle.eevdf_report.proofs.text_times.push_time.Goals as goal

pub returns : goal.returns
unfolding time_text
returns c = search (rules, IfOk-equal, append_assoc)
