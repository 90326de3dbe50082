use Rattle.std.proofs.Common.{◌∙◌, sym}
use Rattle.eevdf_queue.specs.{TreeShape.tasks_in}
use Rattle.eevdf_queue.proofs.TreeLeasts.{least-same_right}
use Rattle.eevdf_queue.proofs.tree.node.edit.+remove_last.Goals as goal

pub correct-change-requires-clause-kept_least : goal.correct-change-requires-clause-kept_least
correct-change-requires-clause-kept_least t c = λ h.
    c.root.invariant.least
    ∙ sym (least-same_right (tasks_in c.root.inside.parts.sides.left) c.root.inside.parts.task (tasks_in c.root.inside.parts.sides.right) (tasks_in c.remove_last-taken.new.link) (c.remove_last-taken.ensures.changed.same_least h))
