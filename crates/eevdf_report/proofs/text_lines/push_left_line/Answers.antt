use Rattle.std.proofs.{Common.append_assoc, Common.rules, lemmas.Result.IfOk-equal}
use Rattle.eevdf_report.proofs.text_lines.push_left_line.Goals as goal

pub returns : goal.returns
returns c = search (rules, IfOk-equal, append_assoc)
