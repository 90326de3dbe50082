-- The texts of deeds and answers.
use Rattle.std.specs.Prelude.{ℕ, List, ◌++◌, codes}
use Rattle.eevdf_ops.specs.declared.deeds.Line.{Line}
pub use Rattle.eevdf_queue.specs.Texts.{resched_text}
pub use Rattle.eevdf_ops.specs.Texts.{deed_text, numbered_deed_text, answer_text}
use Rattle.eevdf_report.specs.Text.{as_line}

-- one line of a schedule
abbrev pub schedule_line : Line → List ℕ
schedule_line l = as_line (deed_text l.deed ++ codes ": " ++ answer_text l.answer)

-- one deed as a member of a script
abbrev pub script_line : Line → List ℕ
script_line l = as_line (codes "\"" ++ numbered_deed_text l.deed ++ codes "\",")
