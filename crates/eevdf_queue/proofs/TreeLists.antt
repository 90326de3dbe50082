-- What an insertion into a list of tasks and a removal from it keep.
use Rattle.std.proofs.Common.{◌≡◌, ℕ, ◌<◌, true, false, cond, eqb, List, [], ◌∷◌, length, Some, None, refl, arith}
use Rattle.std.proofs.lemmas.Bool.Decides.{nat_tests}
use Rattle.eevdf_queue.specs.{declared.task.Task.Task, TaskLists.find_task}
use Rattle.eevdf_queue.specs.TreeTasks.{precedes, insert_task, without}
use Rattle.eevdf_queue.proofs.{AllTasks.apart, ListMaps.AreNumbered, ListMaps.few}

pub find-insert_task : (x : ℕ) (t : Task) (ts : List Task) → find_task t.number ts ≡ None → find_task x (insert_task t ts) ≡ cond (eqb t.number x) (Some t) (find_task x ts)
find-insert_task x t [] n = refl
find-insert_task x t (u ∷ us) n = grind (arith, nat_tests, find-insert_task x t us)

missed-insert : (x : ℕ) (t : Task) (ts : List Task) → find_task t.number ts ≡ None → eqb x t.number ≡ false → find_task x ts ≡ None → find_task x (insert_task t ts) ≡ None
missed-insert x t ts n o h = grind (arith, nat_tests, find-insert_task x t ts n)

pub numbered-insert : (t : Task) (ts : List Task) → find_task t.number ts ≡ None → t.number < 1024 → AreNumbered ts → AreNumbered (insert_task t ts)
numbered-insert t [] n l h = (refl, l, tt)
numbered-insert t (u ∷ us) n l h =
    let a = apart (eqb u.number t.number) u (find_task t.number us) n in
    elim (precedes t u) as (λ b. AreNumbered (cond b (t ∷ u ∷ us) (u ∷ insert_task t us))) [
      | true ↦ (n, l, h)
      | false ↦ (missed-insert u.number t us a.1 a.0 h.0, h.1, numbered-insert t us a.1 l h.2)
    ]

missed-without : (x q : ℕ) (ts : List Task) → find_task x ts ≡ None → find_task x (without q ts) ≡ None
missed-without x q [] h = h
missed-without x q (u ∷ us) h = grind (arith, nat_tests, missed-without x q us)

pub numbered-without : (q : ℕ) (ts : List Task) → AreNumbered ts → AreNumbered (without q ts)
numbered-without q [] h = h
numbered-without q (u ∷ us) h =
    elim (eqb u.number q) as (λ b. AreNumbered (cond b us (u ∷ without q us))) [
      | true ↦ h.2
      | false ↦ (missed-without u.number q us h.0, h.1, numbered-without q us h.2)
    ]

pub find-without : (x q : ℕ) (ts : List Task) → AreNumbered ts → find_task x (without q ts) ≡ cond (eqb q x) None (find_task x ts)
find-without x q [] h = grind (arith, nat_tests)
find-without x q (u ∷ us) h = grind (arith, nat_tests, h.0, find-without x q us h.2)

-- a task more is still no more than there are numbers
pub room : (t : Task) (ts : List Task) → find_task t.number ts ≡ None → t.number < 1024 → AreNumbered ts → length ts < 1024
room t ts n l h = few (t ∷ ts) (n, l, h)
