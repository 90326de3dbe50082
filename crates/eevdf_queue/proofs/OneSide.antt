-- A node after one of its sides has changed.
use Rattle.std.proofs.Common.{◌≡◌, ℕ, suc, ◌+◌, ◌≤◌, true, false, cond, List, length, refl, arith}
use Rattle.std.specs.Prelude.{Option, Box}
use Rattle.eevdf_queue.specs.{declared.task.Task.Task, TreeShape.Tree, TreeShape.tasks_in}
use Rattle.eevdf_queue.specs.{declared.tree.sides.Side.Side, declared.tree.sides.Side.TheVariants.Left, declared.tree.sides.Side.TheVariants.Right}
use Rattle.eevdf_queue.specs.{Sides.on_side, Sides.with_side}
use Rattle.eevdf_queue.specs.{declared.tree.key.TreeKey.TreeKey, TreeNodes.NodeParts, TreeNodes.tasks_of}
use Rattle.eevdf_queue.specs.{TreeLeast.least_of, TreeKeys.is_of, TreeKeys.is_under, TreeKeys.Holds}
use Rattle.eevdf_queue.proofs.TreeSides.{IsBelow, IsEdited, below_left, below_right}
use Rattle.eevdf_queue.proofs.TreeLengths.{few_left, few_right}
use Rattle.eevdf_queue.proofs.{TreeSearch.over_else, TreeLeasts.least-same_left, TreeLeasts.least-same_right}

module _ {Z : Type 0} where
  -- with another link on a side
  abbrev pub with_link : NodeParts Z → Side → Option (Box Tree Z) → NodeParts Z
  with_link p side l = record p { sides = with_side p.sides side l }

  -- where one side has the same least virtual runtime, so has the whole
  pub least_on : (p : NodeParts Z) (l : Option (Box Tree Z)) (side : Side) → least_of (tasks_in l) ≡ least_of (tasks_in (on_side p.sides side))
      → least_of (tasks_of (with_link p side l)) ≡ least_of (tasks_of p)
  least_on p l Left h = least-same_left (tasks_in p.sides.left) (tasks_in l) p.task (tasks_in p.sides.right) h
  least_on p l Right h = least-same_right (tasks_in p.sides.left) p.task (tasks_in p.sides.right) (tasks_in l) h

  -- where one side is a task shorter, both together have few
  pub few_on : (most : ℕ) (p : NodeParts Z) (l : Option (Box Tree Z)) (side : Side) → length (tasks_of p) ≤ most
      → length (tasks_in (on_side p.sides side)) ≡ suc (length (tasks_in l))
      → length (tasks_in (with_side p.sides side l).left) + length (tasks_in (with_side p.sides side l).right) ≤ most
  few_on most p l Left h k = few_left most _ (tasks_in p.sides.left) p.task (tasks_in p.sides.right) (tasks_in l) refl h k
  few_on most p l Right h k = few_right most _ (tasks_in p.sides.left) p.task (tasks_in p.sides.right) (tasks_in l) refl h k

-- the side of a node on which a key's task stands that isn't the node's own
abbrev pub IsSideOf : TreeKey → Task → Side → Type 0
IsSideOf k u side = (is_of k u ≡ false) × (side ≡ cond (is_under k u) Left Right)

-- the key is on that side
pub below_on : {Z : Type 0} (k : TreeKey) (a : NodeParts Z) (ts : List Task) (side : Side) → ts ≡ tasks_of a → Holds k ts → IsSideOf k a.task side → IsBelow k ts (tasks_in (on_side a.sides side))
below_on k a ts Left e h p =
    let u : is_under k a.task ≡ true = let q = p.1 in grind arith in
    below_left k a ts e h u
below_on k a ts Right e h p =
    let u : is_under k a.task ≡ false = let q = p.1 in grind arith in
    below_right k a ts e h (over_else k a.task p.0 u)

-- and an edit at the key is one on that side
pub edited_on : {Z : Type 0} (k : TreeKey) (a : NodeParts Z) (edit : List Task → List Task) (at : Task → List Task → List Task) (ts : List Task) (side : Side)
    (l : Option (Box Tree Z)) → IsEdited k a edit at ts → IsSideOf k a.task side → tasks_in l ≡ edit (tasks_in (on_side a.sides side))
    → tasks_of (with_link a side l) ≡ edit ts
edited_on k a edit at ts Left l d p i =
    let u : is_under k a.task ≡ true = let q = p.1 in grind arith in
    d.left u (tasks_in l) i
edited_on k a edit at ts Right l d p i =
    let u : is_under k a.task ≡ false = let q = p.1 in grind arith in
    d.right (over_else k a.task p.0 u) (tasks_in l) i
