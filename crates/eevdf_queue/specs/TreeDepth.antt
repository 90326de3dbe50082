-- Each side of a node has fewer tasks than the whole.
use Rattle.std.specs.Prelude.{◌≤◌, ◌∷◌, ◌++◌, length, Some, None}
use Rattle.std.proofs.Common.{arith, length-append}
use Rattle.eevdf_queue.specs.{declared.task.Task.Task, declared.tree.node.TreeNode.TheInside.Inside}
use Rattle.eevdf_queue.specs.{declared.tree.node.TreeNode.TheDeep.deep-TreeNode, TreeShape.tasks_in, TreeNodes.tasks_of}

pub depth-le-length : (a : Inside) → deep-TreeNode a ≤ length (tasks_of a.parts)
depth-le-length a =
    elim a.parts.sides.left as (λ l. deep-TreeNode (record a { parts = record a.parts { sides = record a.parts.sides { left = l } } }) ≤ length (tasks_in l ++ a.parts.task ∷ tasks_in a.parts.sides.right)) [
      | None ↦ elim a.parts.sides.right as (λ r. deep-TreeNode (record a { parts = record a.parts { sides = record { left = None; right = r } } }) ≤ length (a.parts.task ∷ tasks_in r)) [
        | None ↦ omega (arith, length-append {A = Task})
        | Some c ↦ omega (arith, length-append {A = Task})
      ]
      | Some b ↦ elim a.parts.sides.right as (λ r. deep-TreeNode (record a { parts = record a.parts { sides = record { left = Some b; right = r } } }) ≤ length (b.value.tasks ++ a.parts.task ∷ tasks_in r)) [
        | None ↦ omega (arith, length-append {A = Task})
        | Some c ↦ omega (arith, length-append {A = Task})
      ]
    ]
