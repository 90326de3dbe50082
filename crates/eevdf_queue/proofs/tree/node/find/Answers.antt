use Rattle.std.proofs.Common.{◌≡◌, ◌∙◌, sym}
use Rattle.eevdf_queue.specs.{TreeShape.tasks_in, TreeNodes.tasks_of}
use Rattle.eevdf_queue.proofs.TreeOrder.{ordered_left, ordered_right}
use Rattle.eevdf_queue.proofs.TreeSearch.{own_not_under, own_not_over, over_else, find_left, find_right, find_own, placed_on}
use Rattle.eevdf_queue.proofs.tree.node.find.Goals as goal

pub down-preserved-then-is_under : goal.down-preserved-then-is_under
down-preserved-then-is_under c =
    let e : tasks_in c.down.at.now ≡ tasks_of c.node.inside.parts = cc in
    let f = find_left c.args.key.now (tasks_in c.down.at.now) (tasks_in c.node.inside.parts.sides.left) c.node.inside.parts.task (tasks_in c.node.inside.parts.sides.right) e c.down.invariant.0 c.down.invariant.1.0 (sym c.is_under.ensures ∙ c.if-is_under.true) in
    (ordered_left (tasks_in c.down.at.now) (tasks_in c.node.inside.parts.sides.left) c.node.inside.parts.task (tasks_in c.node.inside.parts.sides.right) e c.down.invariant.0, (placed_on c.args.key.now (tasks_in c.down.at.now) (tasks_in c.node.inside.parts.sides.left) f c.down.invariant.1.0, c.down.invariant.1.1 ∙ f))

pub down-preserved : goal.down-preserved
down-preserved c =
    let e : tasks_in c.down.at.now ≡ tasks_of c.node.inside.parts = cc in
    let f = find_right c.args.key.now (tasks_in c.down.at.now) (tasks_in c.node.inside.parts.sides.left) c.node.inside.parts.task (tasks_in c.node.inside.parts.sides.right) e c.down.invariant.0 c.down.invariant.1.0 (over_else c.args.key.now c.node.inside.parts.task (sym c.is_of.ensures ∙ c.if-is_of.false) (sym c.is_under.ensures ∙ c.if-is_under.false)) in
    (ordered_right (tasks_in c.down.at.now) (tasks_in c.node.inside.parts.sides.left) c.node.inside.parts.task (tasks_in c.node.inside.parts.sides.right) e c.down.invariant.0, (placed_on c.args.key.now (tasks_in c.down.at.now) (tasks_in c.node.inside.parts.sides.right) f c.down.invariant.1.0, c.down.invariant.1.1 ∙ f))

pub returns-then-is_of : goal.returns-then-is_of
returns-then-is_of c =
    let e : tasks_in c.down.at.now ≡ tasks_of c.node.inside.parts = cc in
    sym (c.down.invariant.1.1 ∙ find_own c.args.key.now (tasks_in c.down.at.now) (tasks_in c.node.inside.parts.sides.left) c.node.inside.parts.task (tasks_in c.node.inside.parts.sides.right) e c.down.invariant.0 c.down.invariant.1.0 (own_not_under c.args.key.now c.node.inside.parts.task (sym c.is_of.ensures ∙ c.if-is_of.true)) (own_not_over c.args.key.now c.node.inside.parts.task (sym c.is_of.ensures ∙ c.if-is_of.true)))
