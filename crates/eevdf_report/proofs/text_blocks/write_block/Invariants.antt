use Rattle.std.proofs.Common.{◌≡◌, ◌≤◌, ◌+◌, ◌*◌, length, map, drop}
use Rattle.eevdf_report.specs.BlockText.{block_room, most_bytes}
use Rattle.eevdf_report.specs.TextSchedules.{schedule_lines}
use Rattle.eevdf_report.proofs.text_blocks.write_block.Given as goal

abbrev pub invariant-loop-at : goal.invariant-loop-at
invariant-loop-at l = record {
  text : l.text ≡ schedule_lines (map (λ r. r.now) (drop l.at l.lines));
  room : most_bytes * l.at + length l.text ≤ block_room;
}
