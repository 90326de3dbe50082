-- Some task is eligible exactly where the least virtual runtime is.
use Rattle.std.proofs.Common.{◌≡◌, ℕ, Bool, true, false, cond, ◌||◌, List, [], ◌∷◌, ◌++◌, refl, sym, ap, ◌∙◌, arith}
use Rattle.std.specs.Prelude.{ℤ, pos, ◌*ℤ◌, ◌≤ℤ◌, int_le, int_lt, is_some}
use Rattle.std.specs.Int.{int_min}
use Rattle.std.proofs.{lemmas.Int.ints, lemmas.Int.clamps}
use Rattle.eevdf_queue.specs.{declared.task.Task.Task, Pick.is_eligible_at, TreeLeast.least_runtime, TreeLeast.AreLow}
use Rattle.eevdf_queue.specs.{TreeTasks.first_that, TreeShape.tasks_in, TreeNodes.tasks_of, TreeNodes.IsNode}
use Rattle.eevdf_queue.proofs.{Scaled.scaled_le}
use Rattle.eevdf_queue.specs.{declared.tree.least.Least.Least, declared.tree.node.TreeNode.TheInside.Inside}

lower : (w : ℕ) (s a b : ℤ) → a ≤ℤ b → int_le (b *ℤ pos w) s ≡ true → int_le (a *ℤ pos w) s ≡ true
lower w s a b h p = grind (arith, ints, scaled_le a b w h)

-- the lesser of two is eligible exactly where one of them is
either : (w : ℕ) (s a b : ℤ) → int_le (int_min a b *ℤ pos w) s ≡ (int_le (a *ℤ pos w) s || int_le (b *ℤ pos w) s)
either w s a b = by (int_lt b a) refl
  where
    by : (c : Bool) → int_lt b a ≡ c → int_le (cond c b a *ℤ pos w) s ≡ (int_le (a *ℤ pos w) s || int_le (b *ℤ pos w) s)
    by true e = let l : b ≤ℤ a = omega (arith, ints) in grind (arith, lower w s b a l)
    by false e = let l : a ≤ℤ b = omega (arith, ints) in grind (arith, lower w s a b l)

least_one : (v : ℤ) → v ≤ℤ pos 0x7fff_ffff_ffff_ffff → int_min v (pos 0x7fff_ffff_ffff_ffff) ≡ v
least_one v h = omega (arith, ints, clamps)

some-least_by : (w : ℕ) (s : ℤ) (t : Task) (ts : List Task) → AreLow (t ∷ ts)
    → is_some (first_that (is_eligible_at w s) (t ∷ ts)) ≡ int_le (least_runtime (t ∷ ts) *ℤ pos w) s
some-least_by w s t [] h = let least = least_one t.entry.v h.0 in grind (arith, least)
some-least_by w s t (u ∷ us) h = grind (arith, either w s t.entry.v (least_runtime (u ∷ us)), some-least_by w s u us h.1)

pub some-least : (w : ℕ) (s : ℤ) (ts xs : List Task) (t : Task) (ys : List Task) → ts ≡ xs ++ t ∷ ys → AreLow ts
    → is_some (first_that (is_eligible_at w s) ts) ≡ int_le (least_runtime ts *ℤ pos w) s
some-least w s [] [] t ys e h = cc
some-least w s [] (x ∷ xs) t ys e h = cc
some-least w s (u ∷ us) xs t ys e h = some-least_by w s u us h

-- a node has an eligible task exactly where its least virtual runtime is eligible
pub some-node : (w : ℕ) (s : ℤ) (a : Inside) → IsNode a.kept a.parts
    → int_le (a.kept.least.runtime *ℤ pos w) s ≡ is_some (first_that (is_eligible_at w s) (tasks_of a.parts))
some-node w s a h =
    ap (λ (z : Least). int_le (z.runtime *ℤ pos w) s) h.least
    ∙ sym (some-least w s (tasks_of a.parts) (tasks_in a.parts.sides.left) a.parts.task (tasks_in a.parts.sides.right) refl h.bounded)
