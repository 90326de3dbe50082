use Rattle.std.proofs.Common.{◌≡◌, ◌++◌, length}
use Rattle.std.specs.List.{flat_map, range_with_len}
use Rattle.eevdf_report.specs.TextReport.{left_at}
use Rattle.eevdf_report.proofs.text_report.push_left_of.Given as goal

abbrev pub invariant-loop-sender : goal.invariant-loop-sender
invariant-loop-sender l =
    l.text.items ≡ l.initial.text.items ++ flat_map (left_at (length l.outcome.queues) l.outcome.left l.home) (range_with_len 0 l.sender)
