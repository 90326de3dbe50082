-- What is kept of the task that was picked last: that it is its entry, and stays so when another task joins, and that the task is the pick.
use Rattle.std.proofs.Common.{◌≡◌, ◌<◌, ◌≤◌, ℕ, Bool, List, [], ◌∷◌, length, Option, Some, None, sym, ap, subst, ◌∙◌, arith}
use Rattle.std.specs.{Prelude.ℤ, Prelude.IfSome, Option.option_map, Ordering.nat_cmp, FinMap.FinMap, FinMap.get, FinMap.len, FinMap.find, FinMap.get-from_entries, Cmp.nat_cmp_total}
use Rattle.std.proofs.lemmas.Bool.Decides.{nat_tests}
use Rattle.eevdf_queue.specs.{declared.entry.Entry.Entry, declared.task.Task.Task, declared.tree.totals.Totals.Totals}
use Rattle.eevdf_queue.specs.{declared.tree.picked_task.Pick.Pick, declared.tree.picked_task.PickedTask.PickedTask, declared.tree.key.TreeKey.TreeKey}
use Rattle.eevdf_queue.specs.{Pick.pick_of, State.TasksInTree, TreeShape.IsFull, TreeShape.Tree}
use Rattle.eevdf_queue.specs.{Numbers.number_limit, NodeDepths.depth_at, NodeDepths.depths_by_number, TaskLists.find_task, TaskLists.runnable_in, TaskLists.AreRunnable}
use Rattle.eevdf_queue.specs.TreeTasks.{insert_task, first_that, IsAtDeadline}
use Rattle.eevdf_queue.specs.TreeStores.{timeless, picked_timeless, IsSummedStore, IsKnown, IsPickAt, IsStillPick, IsRunnableTasks}
use Rattle.eevdf_queue.proofs.{RunnableMaps.get-runnable_in, RunnableMaps.len-runnable_in, TreeLists.find-insert_task, ListMaps.same_number}

pub sums_kept : (table : List ℤ) (s : Totals) (p : PickedTask) (tree : Tree) → IsRunnableTasks table s p tree → IsSummedStore table s tree.tasks
sums_kept table s p tree h = record { store = h.store; totals = h.totals }

-- what is known, with the deadline
entry_of : (d : ℤ) (p : PickedTask) (o : Option Task) → option_map timeless o ≡ Some (picked_timeless p) → IsAtDeadline d o
    → option_map (λ (t : Task). t.entry) o ≡ Some (record { v = p.runtime; d = d; nice = p.nice; slice = p.slice })
entry_of d p None h a = cc
entry_of d p (Some t) h a =
    let same : timeless t ≡ picked_timeless p = cc in
    ap (λ (z : ℤ × ℤ × ℕ). Some (record { v = z.0; d = t.entry.d; nice = z.1; slice = z.2 })) same
    ∙ ap (λ (z : ℤ). Some (record { v = p.runtime; d = z; nice = p.nice; slice = p.slice })) a

pub known_entry : (p : PickedTask) (ts : List Task) (m : FinMap nat_cmp Entry) (k : TreeKey) → runnable_in ts ≡ m → IsKnown p ts → p.number < number_limit → p.number ≡ k.number
    → IsAtDeadline k.deadline (find_task k.number ts) → get m k.number ≡ Some (record { v = p.runtime; d = k.deadline; nice = p.nice; slice = p.slice })
known_entry p ts m k v h l e at =
    ap (λ (z : FinMap nat_cmp Entry). get z k.number) (sym v)
    ∙ get-runnable_in ts k.number
    ∙ entry_of k.deadline p (find_task k.number ts) (ap (λ (z : ℕ). option_map timeless (find_task z ts)) (sym e) ∙ h l) at

-- of the entry of a task all of that is known
pub known_of : (number : ℕ) (v nice : ℤ) (slice : ℕ) (ts : List Task) (m : FinMap nat_cmp Entry) (t : Task) → runnable_in ts ≡ m → get m t.number ≡ Some t.entry
    → number ≡ t.number → v ≡ t.entry.v → nice ≡ t.entry.nice → slice ≡ t.entry.slice
    → number < number_limit → option_map timeless (find_task number ts) ≡ Some (v, nice, slice)
known_of number v nice slice ts m t view g same runtime n s = λ _. read (find_task number ts)
    (sym (get-runnable_in ts number) ∙ ap (λ (z : FinMap nat_cmp Entry). get z number) view ∙ ap (get m) same ∙ g)
  where
    read : (o : Option Task) → option_map (λ (u : Task). u.entry) o ≡ Some t.entry → option_map timeless o ≡ Some (v, nice, slice)
    read None h = cc
    read (Some u) h =
        let e : u.entry ≡ t.entry = cc in
        cc

-- another task joins
other_found : (x : ℕ) (t : Task) (ts : List Task) (known : ℤ × ℤ × ℕ) → find_task t.number ts ≡ None → option_map timeless (find_task x ts) ≡ Some known
    → option_map timeless (find_task x (insert_task t ts)) ≡ Some known
other_found x t ts known n h = grind (arith, nat_tests, find-insert_task x t ts n)

pub still_known : (p : PickedTask) (t : Task) (ts us : List Task) → IsKnown p ts → find_task t.number ts ≡ None → us ≡ insert_task t ts → IsKnown p us
still_known p t ts us h n e = λ k.
    ap (λ (z : List Task). option_map timeless (find_task p.number z)) e ∙ other_found p.number t ts (picked_timeless p) n (h k)

-- the first task that passes stands under its number
pub first_found : (passes : Entry → Bool) (ts : List Task) (t : Task) → AreRunnable ts → first_that passes ts ≡ Some t → find_task t.number ts ≡ Some t
first_found passes [] t r h = cc
first_found passes (u ∷ us) t r h = grind (arith, nat_tests, r.0, first_found passes us t r.3)

pub first_entry : {X : Type 0} (read : X → Task) (passes : Entry → Bool) (ts : List Task) (m : FinMap nat_cmp Entry) (o : Option X) → AreRunnable ts → runnable_in ts ≡ m
    → option_map read o ≡ first_that passes ts → IfSome o (λ x. get m (read x).number ≡ Some (read x).entry)
first_entry read passes ts m None r v h = tt
first_entry read passes ts m (Some x) r v h =
    ap (λ (z : FinMap nat_cmp Entry). get z (read x).number) (sym v)
    ∙ get-runnable_in ts (read x).number
    ∙ ap (option_map (λ (t : Task). t.entry)) (first_found passes ts (read x) r (sym h))

-- what the tree is seen as
abbrev pub IsSeen : Tree → TasksInTree → Type 0
IsSeen tree w = record { tasks = runnable_in tree.tasks; depths = depths_by_number tree.depths } ≡ w

tasks_seen : (tree : Tree) (w : TasksInTree) → IsSeen tree w → runnable_in tree.tasks ≡ w.tasks
tasks_seen tree w view = ap (λ (z : TasksInTree). z.tasks) view

len_seen : (tree : Tree) (w : TasksInTree) → IsSeen tree w → AreRunnable tree.tasks → len w.tasks ≡ length tree.tasks
len_seen tree w view r = sym (ap (λ (z : FinMap nat_cmp Entry). len z) (tasks_seen tree w view)) ∙ len-runnable_in tree.tasks r

depth_seen : (tree : Tree) (w : TasksInTree) (t : ℕ) → IsSeen tree w → get (depths_by_number tree.depths) t ≡ get w.depths t
depth_seen tree w t view = ap (λ (z : TasksInTree). get z.depths t) view

-- the pick that a descent has found may be kept
pub still_pick : (tree : Tree) (w : TasksInTree) (t deep : ℕ) → IsSeen tree w → AreRunnable tree.tasks → Some t ≡ pick_of w.tasks → IsFull deep (len w.tasks)
    → get w.depths t ≡ Some deep → IsPickAt t deep tree
still_pick tree w t deep view r pick full depth = record {
  pick = ap pick_of (tasks_seen tree w view) ∙ sym pick;
  depth = depth_seen tree w t view ∙ depth;
  low = subst (λ (z : ℕ). IsFull deep z) (len_seen tree w view r) full;
}

-- what is kept is the pick, and its depth is that of its node, and low
pub still_picked : (p : PickedTask) (tree : Tree) (w : TasksInTree) (q : Pick) → IsStillPick p tree → IsSeen tree w → AreRunnable tree.tasks
    → (p.number < number_limit) × (1 ≤ p.depth) × (q.task ≡ p.number) × (q.depth ≡ p.depth)
    → (Some q.task ≡ pick_of w.tasks) × IsFull q.depth (len w.tasks) × (get w.depths q.task ≡ Some q.depth)
still_picked p tree w q h view r (known, positive, number, deep) =
    let k = h known positive in (
      ap (λ (z : ℕ). Some z) number ∙ sym k.pick ∙ ap pick_of (tasks_seen tree w view),
      subst (λ (z : ℕ). IsFull z (len w.tasks)) (sym deep) (subst (λ (z : ℕ). IsFull p.depth z) (sym (len_seen tree w view r)) k.low),
      sym (depth_seen tree w q.task view) ∙ ap (get (depths_by_number tree.depths)) number ∙ k.depth ∙ ap (λ (z : ℕ). Some z) (sym deep),
    )

-- a depth that isn't 0 is found under its number
numbered_depth : (t deep : ℕ) (ds : List (ℕ × ℕ)) → deep ≡ depth_at t ds → 1 ≤ deep → find nat_cmp t ds ≡ Some deep
numbered_depth t deep [] e p = absurd (omega arith)
numbered_depth t deep (d ∷ ds) e p = grind (arith, nat_tests, same_number t d.0, numbered_depth t deep ds)

pub first_depth : {X : Type 0} (task deep : X → ℕ) (tree : Tree) (w : TasksInTree) (o : Option X) → IsSeen tree w → IfSome o (λ x. deep x ≡ depth_at (task x) tree.depths)
    → IfSome o (λ x. 1 ≤ deep x) → IfSome o (λ x. get w.depths (task x) ≡ Some (deep x))
first_depth task deep tree w None view e p = tt
first_depth task deep tree w (Some x) view e p =
    sym (depth_seen tree w (task x) view) ∙ get-from_entries nat_cmp_total tree.depths (task x) ∙ numbered_depth (task x) (deep x) tree.depths e p
