use Rattle.std.proofs.Common.{suc, refl, subst, ℕ, length}
use Rattle.std.specs.Prelude.{max}
use Rattle.eevdf_queue.specs.TreeShape.{tasks_in, height_in, IsFull}
use Rattle.eevdf_queue.proofs.{TreeHeights.full-node, TreeLeasts.least-node}
use Rattle.eevdf_queue.proofs.tree.node.mending.look_around.Goals as goal

pub returns-clause-least : goal.returns-clause-least
returns-clause-least c =
    least-node c.or-2.result c.least.result c.or.result c.of.result c.least-2.result
    (tasks_in c.args.parts.now.sides.left) c.args.parts.now.task (tasks_in c.args.parts.now.sides.right)
    c.or-2.ensures c.or.ensures c.least.ensures.value c.of.ensures.value c.least-2.ensures.value

pub returns-clause-full : goal.returns-clause-full
returns-clause-full c = λ near.
    let p = c.args.parts.now in
    full-node (suc (max (height_in p.sides.left) (height_in p.sides.right))) (height_in p.sides.left) (height_in p.sides.right)
    (tasks_in p.sides.left) p.task (tasks_in p.sides.right) refl near
    (subst (λ (z : ℕ). IsFull z (length (tasks_in p.sides.left))) c.height.ensures.value c.height.ensures.full)
    (subst (λ (z : ℕ). IsFull z (length (tasks_in p.sides.right))) c.height-2.ensures.value c.height-2.ensures.full)
