-- Where a key leads from a node, and what a change at the key's task leaves on either side.
use Rattle.std.proofs.Common.{◌≡◌, ℕ, suc, ◌+◌, ◌<◌, Bool, true, false, cond, eqb, List, [], ◌∷◌, ◌++◌, length, length-append, Some, None, refl, sym, subst, ap, ◌∙◌, arith}
use Rattle.std.specs.Prelude.{is_some}
use Rattle.std.proofs.lemmas.Bool.Decides.{nat_tests}
use Rattle.eevdf_queue.specs.{declared.entry.Entry.Entry, declared.task.Task.Task, declared.tree.key.TreeKey.TreeKey}
use Rattle.eevdf_queue.specs.{TreeShape.tasks_in, TreeNodes.NodeParts, TreeNodes.tasks_of}
use Rattle.eevdf_queue.specs.TaskLists.{find_task, set_entry}
use Rattle.eevdf_queue.specs.TreeKeys.{is_under, Holds}
use Rattle.eevdf_queue.specs.TreeTasks.{AreOrdered, without, IsAtDeadline}
use Rattle.eevdf_queue.proofs.TreeOrder.{ordered_left, ordered_right}
use Rattle.eevdf_queue.proofs.TreeSearch.{HasKey, IsPlaced, is_over, find_left, find_right, find-here, missed-left, missed-left_over, not_here, some_of}

-- the key's task stands on a side of a node
pub record IsBelow (k : TreeKey) (ts xs : List Task) : Type 0 where
  pub fewer : length xs < length ts
  pub holds : Holds k xs
  pub found : find_task k.number ts ≡ find_task k.number xs

module _ {Z : Type 0} (k : TreeKey) (a : NodeParts Z) (ts : List Task) (e : ts ≡ tasks_of a) (h : Holds k ts) where
  longer : length ts ≡ length (tasks_in a.sides.left) + suc (length (tasks_in a.sides.right))
  longer = ap (λ (z : List Task). length z) e ∙ length-append (tasks_in a.sides.left) (a.task ∷ tasks_in a.sides.right)

  below : (xs : List Task) → length xs < length ts → AreOrdered xs → find_task k.number ts ≡ find_task k.number xs → IsBelow k ts xs
  below xs l o f = record {
    fewer = l;
    holds = record { ordered = o; few = let n = h.few in omega arith; here = ap is_some (sym f) ∙ h.here; placed = subst (IsAtDeadline k.deadline) f h.placed };
    found = f;
  }

  pub below_left : is_under k a.task ≡ true → IsBelow k ts (tasks_in a.sides.left)
  below_left p =
      below (tasks_in a.sides.left) (omega (arith, longer)) (ordered_left ts (tasks_in a.sides.left) a.task (tasks_in a.sides.right) e h.ordered)
      (find_left k ts (tasks_in a.sides.left) a.task (tasks_in a.sides.right) e h.ordered h.placed p)

  pub below_right : is_over k a.task ≡ true → IsBelow k ts (tasks_in a.sides.right)
  below_right p =
      below (tasks_in a.sides.right) (omega (arith, longer)) (ordered_right ts (tasks_in a.sides.left) a.task (tasks_in a.sides.right) e h.ordered)
      (find_right k ts (tasks_in a.sides.left) a.task (tasks_in a.sides.right) e h.ordered h.placed p)

  pub found_here : HasKey k a.task → find_task k.number ts ≡ Some a.task
  found_here g = ap (find_task k.number) e ∙ find-here k (tasks_in a.sides.left) a.task (tasks_in a.sides.right) (subst AreOrdered e h.ordered) (subst (IsPlaced k) e h.placed) g

-- a list in which something is done at the key's task, of a node: it is done on that side, or at the task
pub record IsEdited {Z : Type 0} (k : TreeKey) (a : NodeParts Z) (edit : List Task → List Task) (at : Task → List Task → List Task) (ts : List Task) : Type 0 where
  pub left : is_under k a.task ≡ true → (xs : List Task) → xs ≡ edit (tasks_in a.sides.left) → xs ++ a.task ∷ tasks_in a.sides.right ≡ edit ts
  pub right : is_over k a.task ≡ true → (ys : List Task) → ys ≡ edit (tasks_in a.sides.right) → tasks_in a.sides.left ++ a.task ∷ ys ≡ edit ts
  pub here : HasKey k a.task → tasks_in a.sides.left ++ at a.task (tasks_in a.sides.right) ≡ edit ts

same_number : (m n : ℕ) → m ≡ n → eqb m n ≡ true
same_number m n h = grind (arith, nat_tests)

module _ (k : TreeKey) (edit : List Task → List Task) (at : Task → List Task → List Task) (none : edit [] ≡ [])
    (more : (t : Task) (ts : List Task) → edit (t ∷ ts) ≡ cond (eqb t.number k.number) (at t ts) (t ∷ edit ts))
    (before : (t : Task) (xs ys : List Task) → at t (xs ++ ys) ≡ at t xs ++ ys) where
  edit-found : (xs ys : List Task) (t : Task) → find_task k.number xs ≡ Some t → edit (xs ++ ys) ≡ edit xs ++ ys
  edit-found [] ys t h = cc
  edit-found (x ∷ xs) ys t h = grind (arith, more x (xs ++ ys), more x xs, before x xs ys, edit-found xs ys t)

  edit-missed : (xs ys : List Task) → find_task k.number xs ≡ None → edit (xs ++ ys) ≡ xs ++ edit ys
  edit-missed [] ys h = refl
  edit-missed (x ∷ xs) ys h = grind (arith, more x (xs ++ ys), edit-missed xs ys)

  past : (xs : List Task) (u : Task) (ys : List Task) (b : Bool) → find_task k.number xs ≡ None → eqb u.number k.number ≡ b
      → edit (xs ++ u ∷ ys) ≡ xs ++ cond b (at u ys) (u ∷ edit ys)
  past xs u ys b n i = edit-missed xs (u ∷ ys) n ∙ ap (λ (z : List Task). xs ++ z) (more u ys ∙ ap (λ c. cond c (at u ys) (u ∷ edit ys)) i)

  pub edited : {Z : Type 0} (a : NodeParts Z) (ts : List Task) → ts ≡ tasks_of a → Holds k ts → IsEdited k a edit at ts
  edited a ts e h =
      let o = subst AreOrdered e h.ordered in
      let d = subst (IsPlaced k) e h.placed in
      record {
        left = λ p xs i.
            let f = some_of (find_task k.number (tasks_in a.sides.left)) (below_left k a ts e h p).holds.here in
            ap (λ (z : List Task). z ++ a.task ∷ tasks_in a.sides.right) i
            ∙ sym (ap edit e ∙ edit-found (tasks_in a.sides.left) (a.task ∷ tasks_in a.sides.right) f.0 f.1);
        right = λ p ys i.
            let n = missed-left_over k (tasks_in a.sides.left) a.task (tasks_in a.sides.right) o d p in
            ap (λ (z : List Task). tasks_in a.sides.left ++ a.task ∷ z) i
            ∙ sym (ap edit e ∙ past (tasks_in a.sides.left) a.task (tasks_in a.sides.right) false n (not_here k (tasks_in a.sides.left) a.task (tasks_in a.sides.right) o d p));
        here = λ g.
            let n = missed-left k (tasks_in a.sides.left) a.task (tasks_in a.sides.right) o d g in
            sym (ap edit e ∙ past (tasks_in a.sides.left) a.task (tasks_in a.sides.right) true n (same_number a.task.number k.number g.number));
      }

-- the task taken out
pub taken_out : {Z : Type 0} (k : TreeKey) (a : NodeParts Z) (ts : List Task) → ts ≡ tasks_of a → Holds k ts → IsEdited k a (without k.number) (λ t ts. ts) ts
taken_out k = edited k (without k.number) (λ t ts. ts) refl (λ t ts. refl) (λ t xs ys. refl)

-- and with another entry
pub entry_set : {Z : Type 0} (e : Entry) (k : TreeKey) (a : NodeParts Z) (ts : List Task) → ts ≡ tasks_of a → Holds k ts
    → IsEdited k a (set_entry k.number e) (λ t ts. record t { entry = e } ∷ ts) ts
entry_set e k = edited k (set_entry k.number e) (λ t ts. record t { entry = e } ∷ ts) refl (λ t ts. refl) (λ t xs ys. refl)
