use Rattle.std.proofs.Common.{◌≡◌, ◌+◌, ◌≤◌, length}
use Rattle.eevdf_bench.specs.RefusedDeeds.{refused_among}
use Rattle.eevdf_bench.proofs.refused_deeds.refused_among.Given as goal

abbrev pub invariant-lines : goal.invariant-lines
invariant-lines l = (l.count + refused_among l.left ≡ refused_among l.lines) × (l.count + length l.left ≤ length l.lines)

abbrev pub decreases-lines : goal.decreases-lines
decreases-lines l = length l.left
