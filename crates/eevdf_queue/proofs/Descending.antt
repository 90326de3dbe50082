-- How deep a node is, as seen from a node and from another above it.
use Rattle.std.proofs.Common.{◌≡◌, ℕ, suc, ◌+◌, true, false, eqb, List, [], ◌∷◌, ◌++◌, None, refl, ap, ◌∙◌, sym, subst, arith}
use Rattle.std.specs.Prelude.{is_some}
use Rattle.std.proofs.lemmas.Bool.Decides.{nat_tests}
use Rattle.eevdf_queue.specs.{declared.task.Task.Task, declared.tree.node.TreeNode.TheInside.Inside, NodeDepths.deeper, NodeDepths.depth_at}
use Rattle.eevdf_queue.specs.TaskLists.{has_number, find_task, DifferInNumber, AreRunnable}
use Rattle.eevdf_queue.specs.TreeShape.{Tree, tasks_in, depths_in}
use Rattle.eevdf_queue.specs.TreeNodes.{tasks_of, depths_of, tree_of}
use Rattle.eevdf_queue.proofs.{TreeSearch.first-missed}

pub differ_runnable : (ts : List Task) → AreRunnable ts → DifferInNumber ts
differ_runnable [] h = tt
differ_runnable (t ∷ ts) h = (h.0, differ_runnable ts h.3)

-- a task of one part of a list isn't in another part
module _ (q : ℕ) where
  not_left : (xs : List Task) (ys : List Task) → DifferInNumber (xs ++ ys) → is_some (find_task q ys) ≡ true → find_task q xs ≡ None
  not_left [] ys d h = refl
  not_left (x ∷ xs) ys d h = grind (arith, nat_tests, d.0, not_left xs ys d.1 h, first-missed (has_number q) xs ys)

  not_first : (u : Task) (ys : List Task) → DifferInNumber (u ∷ ys) → is_some (find_task q ys) ≡ true → eqb u.number q ≡ false
  not_first u ys d h = grind (arith, nat_tests, d.0)

missed_left : (q : ℕ) (xs ys : List Task) → find_task q (xs ++ ys) ≡ None → find_task q xs ≡ None
missed_left q [] ys h = refl
missed_left q (x ∷ xs) ys h = grind (arith, nat_tests, missed_left q xs ys)

differ_left : (xs ys : List Task) → DifferInNumber (xs ++ ys) → DifferInNumber xs
differ_left [] ys d = tt
differ_left (x ∷ xs) ys d = (missed_left x.number xs ys d.0, differ_left xs ys d.1)

differ_right : (xs ys : List Task) → DifferInNumber (xs ++ ys) → DifferInNumber ys
differ_right [] ys d = d
differ_right (x ∷ xs) ys d = differ_right xs ys d.1

present_left : (q : ℕ) (xs ys : List Task) → is_some (find_task q xs) ≡ true → is_some (find_task q (xs ++ ys)) ≡ true
present_left q [] ys h = cc
present_left q (x ∷ xs) ys h = grind (arith, nat_tests, present_left q xs ys)

present_right : (q : ℕ) (xs ys : List Task) → is_some (find_task q ys) ≡ true → is_some (find_task q (xs ++ ys)) ≡ true
present_right q [] ys h = h
present_right q (x ∷ xs) ys h = grind (arith, nat_tests, present_right q xs ys)

present_first : (t : Task) (ts : List Task) → is_some (find_task t.number (t ∷ ts)) ≡ true
present_first t ts = grind (arith, nat_tests)

-- the depths below a node
module _ (q : ℕ) (side : List (ℕ × ℕ)) where
  deep_here : (ts : List Task) (rest : List (ℕ × ℕ)) → is_some (find_task q ts) ≡ true → depth_at q (deeper side ts ++ rest) ≡ suc (depth_at q side)
  deep_here [] rest h = cc
  deep_here (t ∷ ts) rest h = grind (arith, nat_tests, deep_here ts rest)

  deep_last : (ts : List Task) → is_some (find_task q ts) ≡ true → depth_at q (deeper side ts) ≡ suc (depth_at q side)
  deep_last [] h = cc
  deep_last (t ∷ ts) h = grind (arith, nat_tests, deep_last ts)

  deep_behind : (ts : List Task) (rest : List (ℕ × ℕ)) → find_task q ts ≡ None → depth_at q (deeper side ts ++ rest) ≡ depth_at q rest
  deep_behind [] rest h = refl
  deep_behind (t ∷ ts) rest h = grind (arith, nat_tests, deep_behind ts rest)

depth_first : (q : ℕ) (rest : List (ℕ × ℕ)) → depth_at q ((q, 1) ∷ rest) ≡ 1
depth_first q rest = grind (arith, nat_tests)

depth_rest : (q n : ℕ) (rest : List (ℕ × ℕ)) → eqb n q ≡ false → depth_at q ((n, 1) ∷ rest) ≡ depth_at q rest
depth_rest q n rest h = grind (arith, nat_tests)

-- a part of a tree, to whose root so many levels lead from the tree's own
pub record IsPart (levels : ℕ) (part : Tree) (whole : List (ℕ × ℕ)) : Type 0 where
  pub differ : DifferInNumber part.tasks
  pub depths : (q : ℕ) → is_some (find_task q part.tasks) ≡ true → depth_at q whole ≡ levels + depth_at q part.depths

pub itself : (tree : Tree) → DifferInNumber tree.tasks → IsPart 0 tree tree.depths
itself tree d = record { differ = d; depths = λ q h. omega arith }

one_more : (levels depth : ℕ) → levels + suc depth ≡ levels + 1 + depth
one_more levels depth = omega arith

module _ (a : Inside) (at : Tree) (v : tree_of a ≡ at) (levels : ℕ) (whole : List (ℕ × ℕ)) (p : IsPart levels at whole) where
  parted : DifferInNumber (tasks_of a.parts)
  parted = subst (λ (z : Tree). DifferInNumber z.tasks) (sym v) p.differ

  from_node : (q : ℕ) → is_some (find_task q (tasks_of a.parts)) ≡ true → depth_at q whole ≡ levels + depth_at q (depths_of a.parts)
  from_node q h = subst (λ (z : Tree). is_some (find_task q z.tasks) ≡ true → depth_at q whole ≡ levels + depth_at q z.depths) (sym v) (p.depths q) h

  -- one level more leads to each side
  pub to_left : (side : Tree) → tasks_in a.parts.sides.left ≡ side.tasks → depths_in a.parts.sides.left ≡ side.depths → IsPart (levels + 1) side whole
  to_left side t e = record {
    differ = subst DifferInNumber t (differ_left (tasks_in a.parts.sides.left) (a.parts.task ∷ tasks_in a.parts.sides.right) parted);
    depths = λ q h.
        let here : is_some (find_task q (tasks_in a.parts.sides.left)) ≡ true = ap (λ (z : List Task). is_some (find_task q z)) t ∙ h in
        from_node q (present_left q (tasks_in a.parts.sides.left) (a.parts.task ∷ tasks_in a.parts.sides.right) here)
        ∙ ap (λ (n : ℕ). levels + n) (deep_here q (depths_in a.parts.sides.left) (tasks_in a.parts.sides.left) ((a.parts.task.number, 1) ∷ deeper (depths_in a.parts.sides.right) (tasks_in a.parts.sides.right)) here)
        ∙ one_more levels (depth_at q (depths_in a.parts.sides.left))
        ∙ ap (λ (z : List (ℕ × ℕ)). levels + 1 + depth_at q z) e;
  }

  pub to_right : (side : Tree) → tasks_in a.parts.sides.right ≡ side.tasks → depths_in a.parts.sides.right ≡ side.depths → IsPart (levels + 1) side whole
  to_right side t e =
      let behind : DifferInNumber (a.parts.task ∷ tasks_in a.parts.sides.right) = differ_right (tasks_in a.parts.sides.left) (a.parts.task ∷ tasks_in a.parts.sides.right) parted in
      record {
        differ = subst DifferInNumber t behind.1;
        depths = λ q h.
            let here : is_some (find_task q (tasks_in a.parts.sides.right)) ≡ true = ap (λ (z : List Task). is_some (find_task q z)) t ∙ h in
            let there : is_some (find_task q (a.parts.task ∷ tasks_in a.parts.sides.right)) ≡ true = present_right q (a.parts.task ∷ []) (tasks_in a.parts.sides.right) here in
            from_node q (present_right q (tasks_in a.parts.sides.left) (a.parts.task ∷ tasks_in a.parts.sides.right) there)
            ∙ ap (λ (n : ℕ). levels + n)
            (deep_behind q (depths_in a.parts.sides.left) (tasks_in a.parts.sides.left) ((a.parts.task.number, 1) ∷ deeper (depths_in a.parts.sides.right) (tasks_in a.parts.sides.right))
            (not_left q (tasks_in a.parts.sides.left) (a.parts.task ∷ tasks_in a.parts.sides.right) parted there)
            ∙ depth_rest q a.parts.task.number (deeper (depths_in a.parts.sides.right) (tasks_in a.parts.sides.right)) (not_first q a.parts.task (tasks_in a.parts.sides.right) behind here)
            ∙ deep_last q (depths_in a.parts.sides.right) (tasks_in a.parts.sides.right) here)
            ∙ one_more levels (depth_at q (depths_in a.parts.sides.right))
            ∙ ap (λ (z : List (ℕ × ℕ)). levels + 1 + depth_at q z) e;
      }

  -- and so deep is the node itself
  pub at_root : depth_at a.parts.task.number whole ≡ levels + 1
  at_root =
      let here = present_first a.parts.task (tasks_in a.parts.sides.right) in
      from_node a.parts.task.number (present_right a.parts.task.number (tasks_in a.parts.sides.left) (a.parts.task ∷ tasks_in a.parts.sides.right) here)
      ∙ ap (λ (n : ℕ). levels + n)
      (deep_behind a.parts.task.number (depths_in a.parts.sides.left) (tasks_in a.parts.sides.left) ((a.parts.task.number, 1) ∷ deeper (depths_in a.parts.sides.right) (tasks_in a.parts.sides.right))
      (not_left a.parts.task.number (tasks_in a.parts.sides.left) (a.parts.task ∷ tasks_in a.parts.sides.right) parted here)
      ∙ depth_first a.parts.task.number (deeper (depths_in a.parts.sides.right) (tasks_in a.parts.sides.right)))
