use Rattle.std.proofs.Common.{◌≡◌, ◌+◌, length}
use Rattle.eevdf_bench.specs.RefusedDeeds.{first_refused}
use Rattle.eevdf_bench.proofs.refused_deeds.first_refused.Given as goal

abbrev pub invariant-lines : goal.invariant-lines
invariant-lines l = (first_refused 0 l.lines ≡ first_refused l.at l.left) × (l.at + length l.left ≡ length l.lines)

abbrev pub decreases-lines : goal.decreases-lines
decreases-lines l = length l.left
