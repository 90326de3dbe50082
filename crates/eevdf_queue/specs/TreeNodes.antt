-- What holds of a node, and what it is seen as.
use Rattle.std.specs.Prelude.{◌≡◌, ℕ, suc, ◌+◌, ◌≤◌, ◌^◌, max, List, ◌∷◌, ◌++◌, length, Option, Box}
use Rattle.eevdf_queue.specs.{declared.tree.node.TreeNode.TheInside.Inside, NodeDepths.deeper}
use Rattle.eevdf_queue.specs.{declared.task.Task.Task, declared.tree.parts.Parts.Parts, declared.tree.parts.Kept.Kept, TreeLeast.least_of, TreeLeast.AreLow}
use Rattle.eevdf_queue.specs.TreeShape.{Tree, tasks_in, height_in, depths_in, DifferByAtMost, IsFull, IsHeightOfBalanced}

-- a task and the links on either side of it
abbrev pub NodeParts : Type 0 → Type 0
NodeParts Z = Parts (Option (Box Tree Z))

abbrev pub tasks_of : {Z : Type 0} → NodeParts Z → List Task
tasks_of p = tasks_in p.sides.left ++ p.task ∷ tasks_in p.sides.right

abbrev pub depths_of : {Z : Type 0} → NodeParts Z → List (ℕ × ℕ)
depths_of p =
    deeper (depths_in p.sides.left) (tasks_in p.sides.left) ++ (p.task.number, 1) ∷ deeper (depths_in p.sides.right) (tasks_in p.sides.right)

abbrev pub tree_of : Inside → Tree
tree_of a = record { tasks = tasks_of a.parts; height = a.kept.height; depths = depths_of a.parts }

-- the height of a tree of these parts
abbrev pub height_of : {Z : Type 0} → NodeParts Z → ℕ
height_of p = suc (max (height_in p.sides.left) (height_in p.sides.right))

-- the heights of the sides differ by at most this
abbrev pub AreWithin : {Z : Type 0} → ℕ → NodeParts Z → Type 0
AreWithin by p = DifferByAtMost by (height_in p.sides.left) (height_in p.sides.right)

-- of a node: the sides are of nearly one height, and what is kept is right
pub record IsNode {Z : Type 0} (kept : Kept) (p : NodeParts Z) : Type 0 where
  pub height : kept.height ≡ height_of p
  pub balanced : AreWithin 1 p
  pub low : kept.height ≤ length (tasks_of p)
  pub full : IsFull kept.height (length (tasks_of p))
  pub least : kept.least ≡ least_of (tasks_of p)
  pub bounded : AreLow (tasks_of p)

-- no more tasks stand on the two sides than a queue can have
abbrev pub AreFew : {Z : Type 0} → NodeParts Z → Type 0
AreFew p = length (tasks_in p.sides.left) + length (tasks_in p.sides.right) ≤ 2 ^ 20

-- the same tasks between sides of nearly one height
pub record IsEvened {Z : Type 0} (older p : NodeParts Z) : Type 0 where
  pub tasks : tasks_of p ≡ tasks_of older
  pub balanced : AreWithin 1 p
  pub height : IsHeightOfBalanced (height_in older.sides.left) (height_in older.sides.right) (height_of p)

-- and what is kept of them is right
pub record IsMended {Z : Type 0} (older : NodeParts Z) (kept : Kept) (p : NodeParts Z) : Type 0 where
  pub node : IsNode kept p
  pub evened : IsEvened older p
