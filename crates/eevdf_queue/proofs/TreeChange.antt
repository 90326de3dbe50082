-- A list of tasks of which one gets another entry.
use Rattle.std.proofs.Common.{◌≡◌, ℕ, Bool, true, false, cond, eqb, List, [], ◌∷◌, length, Some, sym, subst, ap, ◌∙◌, arith}
use Rattle.std.specs.{Prelude.ℤ, Prelude.is_some, Ordering.nat_cmp, List.AllByRecursion}
use Rattle.std.specs.FinMap.{FinMap, insert, get}
use Rattle.eevdf_queue.specs.{declared.entry.Entry.Entry, declared.task.Task.Task, Order.is_before}
use Rattle.eevdf_queue.specs.{Moves.is_entry_in_range}
use Rattle.eevdf_queue.specs.TaskLists.{find_task, set_entry, runnable_in, AreRunnable}
use Rattle.eevdf_queue.specs.TreeTasks.{precedes, AreOrdered, IsSorted, IsAtDeadline}
use Rattle.eevdf_queue.specs.TreeStores.{noted, IsNoted, IsRunnableStore}
use Rattle.eevdf_queue.proofs.AllTasks.{all-each, all-set}
use Rattle.eevdf_queue.proofs.RunnableMaps.{runnable_after, runnable_in-set_entry}

-- with the same deadline each task keeps its place
same_before : (x t : Task) (e : Entry) → t.entry.d ≡ e.d → precedes x (record t { entry = e }) ≡ precedes x t
same_before x t e h = ap (λ (z : ℤ). is_before (x.number, x.entry) (t.number, record t.entry { d = z })) (sym h)

same_after : (x t : Task) (e : Entry) → t.entry.d ≡ e.d → precedes (record t { entry = e }) x ≡ precedes t x
same_after x t e h = ap (λ (z : ℤ). is_before (t.number, record t.entry { d = z }) (x.number, x.entry)) (sym h)

ordered_by : (q : ℕ) (e : Entry) (t : Task) (us : List Task) (b : Bool) → IsAtDeadline e.d (cond b (Some t) (find_task q us)) → AreOrdered (t ∷ us)
    → (IsAtDeadline e.d (find_task q us) → AreOrdered (set_entry q e us)) → AreOrdered (cond b (record t { entry = e } ∷ us) (t ∷ set_entry q e us))
ordered_by q e t us true a h k = (all-each (λ u. precedes t u ≡ true) (λ u. precedes (record t { entry = e }) u ≡ true) (λ u p. same_after u t e a ∙ p) us h.0, h.1)
ordered_by q e t us false a h k = (all-set (λ u. precedes t u ≡ true) q e us (λ u d p. same_before t u e d ∙ p) a h.0, k a)

ordered-set : (q : ℕ) (e : Entry) (ts : List Task) → IsAtDeadline e.d (find_task q ts) → AreOrdered ts → AreOrdered (set_entry q e ts)
ordered-set q e [] a h = tt
ordered-set q e (t ∷ us) a h = ordered_by q e t us (eqb t.number q) a h (λ a'. ordered-set q e us a' h.1)

pub sorted-set : (q : ℕ) (e : Entry) (ts rs : List Task) → IsSorted ts → IsAtDeadline e.d (find_task q ts) → rs ≡ set_entry q e ts → length rs ≡ length ts → IsSorted rs
sorted-set q e ts rs s a i l = record {
  ordered = subst AreOrdered (sym i) (ordered-set q e ts a s.ordered);
  few = let f = s.few in omega arith;
}

pub stored-set : (table : List ℤ) (q : ℕ) (e : Entry) (ts rs : List Task) → IsRunnableStore table ts → IsAtDeadline e.d (find_task q ts) → is_entry_in_range e ≡ true
    → rs ≡ set_entry q e ts → IsRunnableStore table rs
stored-set table q e ts rs s a r i = record {
  runnable = subst AreRunnable (sym i) (runnable_after q e ts r s.runnable);
  noted = subst (AllByRecursion (IsNoted table)) (sym i) (all-set (IsNoted table) q e ts (λ t d p. p ∙ ap noted d) a s.noted);
}

pub set_seen : (q : ℕ) (e : Entry) (ts rs : List Task) (m : FinMap nat_cmp Entry) → runnable_in ts ≡ m → is_some (get m q) ≡ true → rs ≡ set_entry q e ts
    → runnable_in rs ≡ insert m q e
set_seen q e ts rs m v h i =
    ap runnable_in i
    ∙ runnable_in-set_entry q e ts (ap (λ (z : FinMap nat_cmp Entry). is_some (get z q)) v ∙ h)
    ∙ ap (λ (z : FinMap nat_cmp Entry). insert z q e) v
