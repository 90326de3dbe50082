-- A task that gets another virtual runtime and nothing else.
use Rattle.std.proofs.Common.{◌≡◌, ℕ, suc, ◌≤◌, true, List, [], length, Option, Some, None, refl, ap, sym, subst, ◌∙◌, arith}
use Rattle.std.specs.{Prelude.ℤ, Prelude.max, Prelude.pos, Prelude.◌≤ℤ◌, Prelude.is_some, Option.option_map, Int.int_min}
use Rattle.std.proofs.lemmas.Int.{ints, clamps}
use Rattle.eevdf_queue.specs.{declared.entry.Entry.Entry, declared.task.Task.Task, TreeTasks.IsAtDeadline}
use Rattle.eevdf_queue.specs.{declared.tree.least.Least.Least, TreeLeast.least_of, TreeLeast.lesser, TreeLeast.AreLow}
use Rattle.eevdf_queue.specs.{declared.tree.node.TreeNode.TheInside.Inside, TreeNodes.IsNode, TreeNodes.tasks_of}
use Rattle.eevdf_queue.specs.TreeShape.{height_in, DifferByAtMost, IsFull}

abbrev pub aged_to : ℤ → Task → Entry
aged_to v t = record t.entry { v = v }

-- a task of another virtual runtime is one of another entry
pub aged_task : (v : ℤ) (u : Task) (o : Option Task) (e : Entry) → o ≡ Some u → option_map (aged_to v) o ≡ Some e → record u { entry = aged_to v u } ≡ record u { entry = e }
aged_task v u None e h k = cc
aged_task v u (Some t) e h k =
    let same : t ≡ u = cc in
    let is : aged_to v t ≡ e = cc in
    let own : aged_to v u ≡ aged_to v t = ap (aged_to v) (let back : u ≡ t = cc in back) in
    ap (λ (z : Entry). record u { entry = z }) (own ∙ is)

pub aged_entry : (v : ℤ) (o : Option Task) → is_some o ≡ true → (e : Entry) × ((option_map (aged_to v) o ≡ Some e) × (e.v ≡ v))
aged_entry v None h = cc
aged_entry v (Some t) h = (aged_to v t, (refl, refl))

pub aged_as : (v : ℤ) (o : Option Task) (x e : Entry) → option_map (λ (t : Task). t.entry) o ≡ Some x → record x { v = v } ≡ e → option_map (aged_to v) o ≡ Some e
aged_as v None x e h k = cc
aged_as v (Some t) x e h k =
    let same : t.entry ≡ x = cc in
    ap (λ (z : Entry). Some (record z { v = v })) same ∙ ap (λ (z : Entry). Some z) k

pub at_deadline : (x : Entry) (d : ℤ) (o : Option Task) → option_map (λ (t : Task). t.entry) o ≡ Some x → x.d ≡ d → IsAtDeadline d o
at_deadline x d None h k = tt
at_deadline x d (Some t) h k = let same : t.entry ≡ x = cc in ap (λ (z : Entry). z.d) same ∙ k

-- a least virtual runtime beside that of no task
pub lesser_swapped : (a b : Least) → lesser a b ≡ lesser b a
lesser_swapped a b = let e : int_min a.runtime b.runtime ≡ int_min b.runtime a.runtime = omega (arith, ints, clamps) in ap (λ (z : ℤ). record { runtime = z }) e

pub lesser_none : (a : Least) (ts : List Task) → ts ≡ [] → a.runtime ≤ℤ pos 0x7fff_ffff_ffff_ffff → a ≡ lesser a (least_of ts)
lesser_none a ts h k =
    let e : int_min a.runtime (pos 0x7fff_ffff_ffff_ffff) ≡ a.runtime = omega (arith, ints, clamps, k) in
    ap (λ (z : ℤ). record { runtime = z }) (sym e) ∙ ap (λ (z : List Task). lesser a (least_of z)) (sym h)

-- a node of which one side is another of the same height: what it keeps is right where its least virtual runtime is
pub record IsSameHigh (b a : Inside) : Type 0 where
  pub height : a.kept.height ≡ b.kept.height
  pub left : height_in a.parts.sides.left ≡ height_in b.parts.sides.left
  pub right : height_in a.parts.sides.right ≡ height_in b.parts.sides.right

pub still_high : (b a : Inside) → IsNode b.kept b.parts → IsSameHigh b a → a.kept.least ≡ least_of (tasks_of a.parts)
    → suc (max (height_in a.parts.sides.left) (height_in a.parts.sides.right)) ≤ length (tasks_of a.parts)
    → (DifferByAtMost 1 (height_in a.parts.sides.left) (height_in a.parts.sides.right) → IsFull (suc (max (height_in a.parts.sides.left) (height_in a.parts.sides.right))) (length (tasks_of a.parts)))
    → AreLow (tasks_of a.parts) → IsNode a.kept a.parts
still_high b a n s least low full bounded =
    let height : a.kept.height ≡ suc (max (height_in a.parts.sides.left) (height_in a.parts.sides.right)) = omega (arith, n.height, s.height, s.left, s.right) in
    let balanced : DifferByAtMost 1 (height_in a.parts.sides.left) (height_in a.parts.sides.right) =
    (omega (arith, n.balanced.0, n.balanced.1, s.left, s.right), omega (arith, n.balanced.0, n.balanced.1, s.left, s.right)) in
    record {
      height = height;
      balanced = balanced;
      low = omega (arith, height, low);
      full = subst (λ (z : ℕ). IsFull z (length (tasks_of a.parts))) (sym height) (full balanced);
      least = least;
      bounded = bounded;
    }
