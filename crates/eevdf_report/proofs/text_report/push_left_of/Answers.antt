use Rattle.std.proofs.Common.{ℕ, List, ◌++◌, length, ap, ◌∙◌}
use Rattle.eevdf_report.specs.TextReport.{left_from, left_at}
use Rattle.eevdf_report.proofs.ByNumber.{text_more}
use Rattle.eevdf_report.proofs.text_report.push_left_of.Goals as goal

pub loop-sender-preserved : goal.loop-sender-preserved
loop-sender-preserved c =
    text_more (left_at (length c.args.outcome.now.queues) c.args.outcome.now.left c.args.home) c.loop-sender.sender c.args.text.now.items c.loop-sender.text.items _ c.loop-sender.invariant
    (c.in_ok-push_left.ensures ∙ ap (λ (tasks : List ℕ). c.loop-sender.text.items ++ left_from c.loop-sender.sender tasks) c.left.ensures)
