use Rattle.std.proofs.Common.{◌≡◌, ◌+◌, ◌≤◌, true, length}
use Rattle.std.specs.Prelude.{is_some}
use Rattle.eevdf_queue.specs.{Pick.is_eligible_at, TreeTasks.first_that}
use Rattle.eevdf_queue.proofs.Descending.{IsPart}
use Rattle.eevdf_queue.proofs.tree.node.first_under.Given as goal

abbrev pub invariant-down : goal.invariant-down
invariant-down l =
    (is_some (first_that (is_eligible_at l.totals.weight l.totals.moment) l.at.tasks) ≡ true)
    × ((first_that (is_eligible_at l.totals.weight l.totals.moment) l.root.tasks ≡ first_that (is_eligible_at l.totals.weight l.totals.moment) l.at.tasks)
    × ((l.depth + l.at.height ≤ l.root.height)
    × IsPart l.depth l.at l.root.depths))

abbrev pub decreases-down : goal.decreases-down
decreases-down l = length l.at.tasks
