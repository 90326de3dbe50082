use Rattle.std.proofs.Common.{◌≡◌, ◌∙◌, append_assoc, List, ◌∷◌, ◌++◌, ap, sym, rules}
use Rattle.eevdf_queue.specs.{declared.task.Task.Task, TreeShape.tasks_in}
use Rattle.eevdf_queue.proofs.tree.node.rotation.rotate_left.Goals as goal

with_tail : (ls ms xs ys zs : List Task) (t u : Task) → xs ++ t ∷ ys ≡ ls ++ u ∷ ms → xs ++ t ∷ (ys ++ zs) ≡ ls ++ u ∷ (ms ++ zs)
with_tail ls ms xs ys zs t u e = sym (append_assoc xs (t ∷ ys) zs) ∙ ap (λ (q : List Task). q ++ zs) e ∙ append_assoc ls (u ∷ ms) zs

pub returns : goal.returns
returns c =
    let n = c.node.inside.parts in
    let p = c.args.parts.now in
    let is : tasks_in n.sides.left ++ n.task ∷ tasks_in n.sides.right ≡ tasks_in p.sides.right = cc in
    record {
      tasks =
          with_tail (tasks_in p.sides.left) (tasks_in n.sides.left) (tasks_in c.lean_left.new.left) (tasks_in c.lean_left.new.right) (n.task ∷ tasks_in n.sides.right) c.lean_left.new.task p.task
          c.lean_left.ensures.tasks
          ∙ ap (λ (z : List Task). tasks_in p.sides.left ++ p.task ∷ z) is;
      balanced = search rules;
      height = search rules;
    }
