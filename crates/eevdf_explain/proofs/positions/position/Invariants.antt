use Rattle.std.proofs.Common.{◌≡◌, ◌≤◌, ◌+◌, length}
use Rattle.eevdf_explain.specs.Places.{moved_on}
use Rattle.eevdf_explain.proofs.positions.position.Given as goal

abbrev pub invariant-bytes : goal.invariant-bytes
invariant-bytes l =
    (moved_on 1 1 l.before ≡ moved_on l.line l.column l.left)
    × (l.line + length l.left ≤ 1 + length l.before)
    × (l.column + length l.left ≤ 1 + length l.before)

abbrev pub decreases-bytes : goal.decreases-bytes
decreases-bytes l = length l.left
