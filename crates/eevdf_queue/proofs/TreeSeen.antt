-- The map that a list of tasks is seen as, after an insertion into the list and a removal from it.
use Rattle.std.proofs.Common.{◌≡◌, ℕ, true, cond, eqb, List, None, ap, ◌∙◌, arith}
use Rattle.std.specs.{Option.option_map, Cmp.nat_cmp_total}
use Rattle.std.specs.FinMap.{insert, remove, get, get-insert, get-remove}
use Rattle.std.proofs.lemmas.Bool.Decides.{nat_tests}
use Rattle.eevdf_queue.specs.declared.task.Task.{Task}
use Rattle.eevdf_queue.specs.{TaskLists.find_task, TaskLists.runnable_in, TreeTasks.insert_task, TreeTasks.without}
use Rattle.eevdf_queue.proofs.{ListMaps.AreNumbered, ListMaps.same_number, RunnableMaps.seen_as, RunnableMaps.get-runnable_in}
use Rattle.eevdf_queue.proofs.TreeLists.{find-insert_task, find-without}

pub itself : (q : ℕ) → eqb q q ≡ true
itself q = grind (arith, nat_tests)

-- the number that was taken out isn't there
pub missed-own : (q : ℕ) (ts : List Task) → AreNumbered ts → find_task q (without q ts) ≡ None
missed-own q ts h = find-without q q ts h ∙ ap (λ b. cond b None (find_task q ts)) (itself q)

get-inserted : (x : ℕ) (t : Task) (ts : List Task) → find_task t.number ts ≡ None
    → option_map (λ u. u.entry) (find_task x (insert_task t ts)) ≡ get (insert (runnable_in ts) t.number t.entry) x
get-inserted x t ts n =
    grind (arith, nat_tests, find-insert_task x t ts n, same_number x t.number, get-runnable_in ts x, get-insert nat_cmp_total (runnable_in ts) t.number t.entry x)

pub seen-insert : (t : Task) (ts : List Task) → find_task t.number ts ≡ None → runnable_in (insert_task t ts) ≡ insert (runnable_in ts) t.number t.entry
seen-insert t ts n = seen_as (insert_task t ts) _ (λ x. get-inserted x t ts n)

get-rest : (x q : ℕ) (ts : List Task) → AreNumbered ts → option_map (λ u. u.entry) (find_task x (without q ts)) ≡ get (remove (runnable_in ts) q) x
get-rest x q ts h = grind (arith, nat_tests, find-without x q ts h, same_number x q, get-runnable_in ts x, get-remove nat_cmp_total (runnable_in ts) q x)

pub seen-without : (q : ℕ) (ts : List Task) → AreNumbered ts → runnable_in (without q ts) ≡ remove (runnable_in ts) q
seen-without q ts h = seen_as (without q ts) _ (λ x. get-rest x q ts h)

get-moved : (x : ℕ) (t : Task) (ts : List Task) → AreNumbered ts
    → option_map (λ u. u.entry) (find_task x (insert_task t (without t.number ts))) ≡ get (insert (runnable_in ts) t.number t.entry) x
get-moved x t ts h =
    grind (
      arith,
      nat_tests,
      find-insert_task x t (without t.number ts) (missed-own t.number ts h),
      find-without x t.number ts h,
      same_number x t.number,
      get-runnable_in ts x,
      get-insert nat_cmp_total (runnable_in ts) t.number t.entry x,
    )

-- a task taken out and put in changed
pub seen-moved : (t : Task) (ts : List Task) → AreNumbered ts → runnable_in (insert_task t (without t.number ts)) ≡ insert (runnable_in ts) t.number t.entry
seen-moved t ts h = seen_as (insert_task t (without t.number ts)) _ (λ x. get-moved x t ts h)
