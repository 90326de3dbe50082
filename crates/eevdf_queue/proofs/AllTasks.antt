-- What holds of all tasks of a list.
use Rattle.std.proofs.Common.{◌≡◌, ℕ, Bool, true, false, cond, eqb, List, [], ◌∷◌, ◌++◌, Option, Some, None, refl, subst}
use Rattle.std.specs.List.{AllByRecursion}
use Rattle.eevdf_queue.specs.{declared.entry.Entry.Entry, declared.task.Task.Task}
use Rattle.eevdf_queue.specs.TaskLists.{first_with, find_task, set_entry}
use Rattle.eevdf_queue.specs.TreeTasks.{precedes, insert_task, without, IsAtDeadline}

-- a task that isn't found is neither the first nor behind it
pub apart : (b : Bool) (x : Task) (o : Option Task) → cond b (Some x) o ≡ None → (b ≡ false) × (o ≡ None)
apart true x o h = cc
apart false x o h = (refl, h)

pub all-each : (P Q : Task → Type 0) → ((t : Task) → P t → Q t) → (ts : List Task) → AllByRecursion P ts → AllByRecursion Q ts
all-each P Q f [] h = tt
all-each P Q f (t ∷ ts) h = (f t h.0, all-each P Q f ts h.1)

module _ (P : Task → Type 0) where
  pub all-insert : (t : Task) (ts : List Task) → P t → AllByRecursion P ts → AllByRecursion P (insert_task t ts)
  all-insert t [] p h = (p, tt)
  all-insert t (u ∷ us) p h =
      elim (precedes t u) as (λ b. AllByRecursion P (cond b (t ∷ u ∷ us) (u ∷ insert_task t us))) [
        | true ↦ (p, h)
        | false ↦ (h.0, all-insert t us p h.1)
      ]

  pub all-without : (q : ℕ) (ts : List Task) → AllByRecursion P ts → AllByRecursion P (without q ts)
  all-without q [] h = tt
  all-without q (u ∷ us) h =
      elim (eqb u.number q) as (λ b. AllByRecursion P (cond b us (u ∷ without q us))) [
        | true ↦ h.1
        | false ↦ (h.0, all-without q us h.1)
      ]

  -- also where one gets another entry of the same deadline, as far as it holds of that
  all_set_by : (b : Bool) (q : ℕ) (e : Entry) (t : Task) (us : List Task) → (t.entry.d ≡ e.d → P t → P (record t { entry = e })) → IsAtDeadline e.d (cond b (Some t) (find_task q us))
      → AllByRecursion P (t ∷ us) → (IsAtDeadline e.d (find_task q us) → AllByRecursion P (set_entry q e us)) → AllByRecursion P (cond b (record t { entry = e } ∷ us) (t ∷ set_entry q e us))
  all_set_by true q e t us f a h k = (f a h.0, h.1)
  all_set_by false q e t us f a h k = (h.0, k a)

  pub all-set : (q : ℕ) (e : Entry) (ts : List Task) → ((t : Task) → t.entry.d ≡ e.d → P t → P (record t { entry = e })) → IsAtDeadline e.d (find_task q ts)
      → AllByRecursion P ts → AllByRecursion P (set_entry q e ts)
  all-set q e [] f a h = tt
  all-set q e (t ∷ us) f a h = all_set_by (eqb t.number q) q e t us (f t) a h (λ a'. all-set q e us f a' h.1)

  all_by : (b : Bool) (u t : Task) (o : Option Task) → P u → (o ≡ Some t → P t) → cond b (Some u) o ≡ Some t → P t
  all_by true u t o p k h = let same : u ≡ t = cc in subst P same p
  all_by false u t o p k h = k h

  pub all-found : (test : Task → Bool) (ts : List Task) (t : Task) → AllByRecursion P ts → first_with test ts ≡ Some t → P t
  all-found test [] t a h = cc
  all-found test (u ∷ us) t a h = all_by (test u) u t (first_with test us) a.0 (all-found test us t a.1) h

  pub all-left : (xs ys : List Task) → AllByRecursion P (xs ++ ys) → AllByRecursion P xs
  all-left [] ys h = tt
  all-left (x ∷ xs) ys h = (h.0, all-left xs ys h.1)

  pub all-right : (xs ys : List Task) → AllByRecursion P (xs ++ ys) → AllByRecursion P ys
  all-right [] ys h = h
  all-right (x ∷ xs) ys h = all-right xs ys h.1

  pub all-append : (xs ys : List Task) → AllByRecursion P xs → AllByRecursion P ys → AllByRecursion P (xs ++ ys)
  all-append [] ys h k = k
  all-append (x ∷ xs) ys h k = (h.0, all-append xs ys h.1 k)
