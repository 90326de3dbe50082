-- What is asked of the maps of runnable and of sleeping tasks, answered from rising lists of them.
use Rattle.std.proofs.Common.{◌≡◌, ℕ, ◌<◌, Bool, true, false, cond, eqb, List, [], ◌∷◌, length, Option, Some, None, refl, sym, subst, ap, ◌∙◌, arith}
use Rattle.std.specs.{Prelude.ℤ, Prelude.pos, Prelude.is_some, Option.option_map, Ordering.nat_cmp, List.AllByRecursion}
use Rattle.std.proofs.lemmas.Bool.Decides.{nat_tests}
use Rattle.std.specs.FinMap.{FinMap, insert, remove, get}
use Rattle.eevdf_queue.specs.{declared.entry.Entry.Entry, declared.task.Task.Task, declared.tree.key.TreeKey.TreeKey}
use Rattle.eevdf_queue.specs.Moves.{is_entry_in_range}
use Rattle.eevdf_queue.specs.TaskLists.{has_number, find_task, runnable_in, AreRunnable}
use Rattle.eevdf_queue.specs.TreeTasks.{insert_task, without, IsAtDeadline}
use Rattle.eevdf_queue.specs.TreeStores.{kept_at, noted, IsNoted, IsKeyIn, IsRunnableStore}
use Rattle.std.proofs.lemmas.Int.{ints}
use Rattle.eevdf_queue.proofs.{ListMaps.AreNumbered, ListMaps.numbered_runnable, RunnableMaps.get-runnable_in, RunnableMaps.absent, RunnableMaps.present}
use Rattle.eevdf_queue.proofs.{TreeSearch.found_number, AllTasks.all-insert, AllTasks.all-without, AllTasks.all-found, AllTasks.apart}
use Rattle.eevdf_queue.proofs.TreeLists.{numbered-insert, numbered-without, room}
use Rattle.eevdf_queue.proofs.TreeSeen.{missed-own, seen-insert, seen-without, seen-moved}

abbrev pub InRange : Task → Type 0
InRange t = is_entry_in_range t.entry ≡ true

pub all_in_range : (ts : List Task) → AreRunnable ts → AllByRecursion InRange ts
all_in_range [] h = tt
all_in_range (t ∷ ts) h = (h.2, all_in_range ts h.3)

pub runnable_from : (ts : List Task) → AreNumbered ts → AllByRecursion InRange ts → AreRunnable ts
runnable_from [] h r = tt
runnable_from (t ∷ ts) h r = (h.0, h.1, r.0, runnable_from ts h.2 r.1)

pub runnable-insert : (t : Task) (ts : List Task) → find_task t.number ts ≡ None → t.number < 1024 → InRange t → AreRunnable ts → AreRunnable (insert_task t ts)
runnable-insert t ts n l r h =
    runnable_from (insert_task t ts) (numbered-insert t ts n l (numbered_runnable ts h)) (all-insert InRange t ts r (all_in_range ts h))

pub runnable-without : (q : ℕ) (ts : List Task) → AreRunnable ts → AreRunnable (without q ts)
runnable-without q ts h =
    runnable_from (without q ts) (numbered-without q ts (numbered_runnable ts h)) (all-without InRange q ts (all_in_range ts h))

-- the tables
pub placed_by : (d : ℤ) (o : Option Task) → ((t : Task) → o ≡ Some t → t.entry.d ≡ d) → IsAtDeadline d o
placed_by d None h = tt
placed_by d (Some t) h = h t refl

pub kept_noted : (table : List ℤ) (q : ℕ) (ts : List Task) (t : Task) → AllByRecursion (IsNoted table) ts → find_task q ts ≡ Some t → kept_at table q ≡ noted t.entry.d
kept_noted table q ts t a h =
    sym (ap (kept_at table) (found_number q ts t h)) ∙ all-found (IsNoted table) (has_number q) ts t a h

pub placed : (table : List ℤ) (k : TreeKey) (ts : List Task) → AllByRecursion (IsNoted table) ts → IsKeyIn table k → IsAtDeadline k.deadline (find_task k.number ts)
placed table k ts a at =
    placed_by k.deadline (find_task k.number ts) (λ t h. sym (at t.entry.d (kept_noted table k.number ts t a h)))

-- the table with another number kept at one place
abbrev pub IsTableWith : ℕ → ℤ → List ℤ → List ℤ → Type 0
IsTableWith q kept table table' = (x : ℕ) → kept_at table' x ≡ cond (eqb x q) kept (kept_at table x)

pub noted-own : (t : Task) (table table' : List ℤ) → IsTableWith t.number (noted t.entry.d) table table' → IsNoted table' t
noted-own t table table' w = grind (arith, nat_tests, w t.number)

other_noted : (q : ℕ) (kept : ℤ) (u : Task) (table table' : List ℤ) → IsTableWith q kept table table' → eqb u.number q ≡ false → IsNoted table u → IsNoted table' u
other_noted q kept u table table' w o a = w u.number ∙ ap (λ (b : Bool). cond b kept (kept_at table u.number)) o ∙ a

pub noted-others : (q : ℕ) (kept : ℤ) (table table' : List ℤ) (ts : List Task) → IsTableWith q kept table table' → find_task q ts ≡ None → AllByRecursion (IsNoted table) ts
    → AllByRecursion (IsNoted table') ts
noted-others q kept table table' [] w n a = tt
noted-others q kept table table' (u ∷ us) w n a =
    let s = apart (eqb u.number q) u (find_task q us) n in (other_noted q kept u table table' w s.0 a.0, noted-others q kept table table' us w s.1 a.1)

-- the store after a deed
pub stored-insert : (table table' : List ℤ) (t : Task) (ts rs : List Task) → IsRunnableStore table ts → find_task t.number ts ≡ None → t.number < 1024 → InRange t
    → IsTableWith t.number (noted t.entry.d) table table' → rs ≡ insert_task t ts → IsRunnableStore table' rs
stored-insert table table' t ts rs s n l r w e = record {
  runnable = subst AreRunnable (sym e) (runnable-insert t ts n l r s.runnable);
  noted = subst (AllByRecursion (IsNoted table')) (sym e) (all-insert (IsNoted table') t ts (noted-own t table table' w) (noted-others t.number (noted t.entry.d) table table' ts w n s.noted));
}

pub stored-without : (table : List ℤ) (q : ℕ) (ts rs : List Task) → IsRunnableStore table ts → rs ≡ without q ts → IsRunnableStore table rs
stored-without table q ts rs s e = record {
  runnable = subst AreRunnable (sym e) (runnable-without q ts s.runnable);
  noted = subst (AllByRecursion (IsNoted table)) (sym e) (all-without (IsNoted table) q ts s.noted);
}

pub are_below : (ts : List Task) → AreNumbered ts → AllByRecursion (λ t. t.number < 1024) ts
are_below [] h = tt
are_below (t ∷ ts) h = (h.1, are_below ts h.2)

-- what a store is seen as: a map, given by a list
module _ (ts : List Task) (m : FinMap nat_cmp Entry) (q : ℕ) (v : runnable_in ts ≡ m) where
  seen_at : get m q ≡ option_map (λ t. t.entry) (find_task q ts)
  seen_at = ap (λ (z : FinMap nat_cmp Entry). get z q) (sym v) ∙ get-runnable_in ts q

  pub find_absent : get m q ≡ None → find_task q ts ≡ None
  find_absent h = absent (find_task q ts) (sym seen_at ∙ h)

  pub find_present : is_some (get m q) ≡ true → is_some (find_task q ts) ≡ true
  find_present h = present (find_task q ts) (ap is_some (sym seen_at) ∙ h)

pub found_entry : (ts : List Task) (m : FinMap nat_cmp Entry) (q : ℕ) (t : Task) → runnable_in ts ≡ m → find_task q ts ≡ Some t → get m q ≡ Some t.entry
found_entry ts m q t v f = seen_at ts m q v ∙ ap (option_map (λ u. u.entry)) f

-- the entry that the map has is that of the task in the list
pub entry_here : (q : ℕ) (e : Entry) (ts : List Task) (m : FinMap nat_cmp Entry) → runnable_in ts ≡ m → get m q ≡ Some e → option_map (λ (t : Task). t.entry) (find_task q ts) ≡ Some e
entry_here q e ts m v h = sym (seen_at ts m q v) ∙ h

-- a number of which no deadline is kept has no task
none_where : (kept : ℤ) (o : Option Task) → kept ≡ pos 0 → ((t : Task) → o ≡ Some t → kept ≡ noted t.entry.d) → o ≡ None
none_where kept None e h = refl
none_where kept (Some t) e h = absurd (not_kept t.entry.d (sym e ∙ h t refl))
  where
    not_kept : (d : ℤ) → pos 0 ≡ noted d → ⊥
    not_kept d same = omega (arith, ints)

pub unkept : (table : List ℤ) (q : ℕ) (ts : List Task) (m : FinMap nat_cmp Entry) → AllByRecursion (IsNoted table) ts → runnable_in ts ≡ m → kept_at table q ≡ pos 0 → get m q ≡ None
unkept table q ts m a v e =
    seen_at ts m q v ∙ ap (option_map (λ (t : Task). t.entry)) (none_where (kept_at table q) (find_task q ts) e (λ t h. kept_noted table q ts t a h))

-- the table after a number was forgotten that has no task
pub forgotten_stored : (table table' : List ℤ) (q : ℕ) (ts : List Task) → IsRunnableStore table ts → find_task q ts ≡ None → IsTableWith q (pos 0) table table' → IsRunnableStore table' ts
forgotten_stored table table' q ts s n w = record { runnable = s.runnable; noted = noted-others q (pos 0) table table' ts w n s.noted }

-- a task put in
module _ (table table' : List ℤ) (t : Task) (ts us : List Task) (m : FinMap nat_cmp Entry) (s : IsRunnableStore table ts) (v : runnable_in ts ≡ m)
    (n : get m t.number ≡ None) (l : t.number < 1024) (e : us ≡ insert_task t ts) where
  pub added_stored : InRange t → IsTableWith t.number (noted t.entry.d) table table' → IsRunnableStore table' us
  added_stored r w = stored-insert table table' t ts us s (find_absent ts m t.number v n) l r w e

  pub added_seen : runnable_in us ≡ insert m t.number t.entry
  added_seen =
      ap runnable_in e
      ∙ seen-insert t ts (find_absent ts m t.number v n)
      ∙ ap (λ (z : FinMap nat_cmp Entry). insert z t.number t.entry) v

pub added_room : (table : List ℤ) (ts : List Task) (m : FinMap nat_cmp Entry) (t : Task) → IsRunnableStore table ts → runnable_in ts ≡ m → get m t.number ≡ None → t.number < 1024
    → length ts < 1024
added_room table ts m t s v n l = room t ts (find_absent ts m t.number v n) l (numbered_runnable ts s.runnable)

-- a task taken out
module _ (table : List ℤ) (q : ℕ) (t : Task) (ts rs : List Task) (s : IsRunnableStore table ts) (f : find_task q ts ≡ Some t) (e : rs ≡ without q ts) where
  pub taken_missed : find_task q rs ≡ None
  taken_missed = ap (find_task q) e ∙ missed-own q ts (numbered_runnable ts s.runnable)

  pub taken_absent : find_task t.number rs ≡ None
  taken_absent = ap (λ (z : ℕ). find_task z rs) (found_number q ts t f) ∙ taken_missed

  pub taken_below : t.number < 1024
  taken_below = all-found (λ t. t.number < 1024) (has_number q) ts t (are_below ts (numbered_runnable ts s.runnable)) f

  pub taken_stored : IsRunnableStore table rs
  taken_stored = stored-without table q ts rs s e

  pub taken_room : length rs < 1024
  taken_room = room t rs taken_absent taken_below (numbered_runnable rs taken_stored.runnable)

  pub taken_seen : (m : FinMap nat_cmp Entry) → runnable_in ts ≡ m → runnable_in rs ≡ remove m q
  taken_seen m v = ap runnable_in e ∙ seen-without q ts (numbered_runnable ts s.runnable) ∙ ap (λ (z : FinMap nat_cmp Entry). remove z q) v

  -- and put in again
  pub moved_stored : (table' : List ℤ) (u : Task) (us : List Task) → u.number ≡ t.number → us ≡ insert_task u rs → InRange u → IsTableWith u.number (noted u.entry.d) table table' → IsRunnableStore table' us
  moved_stored table' u us k i r w =
      stored-insert table table' u rs us taken_stored (ap (λ (z : ℕ). find_task z rs) k ∙ taken_absent) (subst (λ (z : ℕ). z < 1024) (sym k) taken_below) r w i

  pub moved_seen : (m : FinMap nat_cmp Entry) (u : Task) (us : List Task) → runnable_in ts ≡ m → u.number ≡ t.number → us ≡ insert_task u rs → runnable_in us ≡ insert m q u.entry
  moved_seen m u us v k i =
      let p : u.number ≡ q = k ∙ found_number q ts t f in
      ap runnable_in (i ∙ ap (insert_task u) (e ∙ ap (λ (z : ℕ). without z ts) (sym p)))
      ∙ seen-moved u ts (numbered_runnable ts s.runnable)
      ∙ ap (λ (z : ℕ). insert (runnable_in ts) z u.entry) p
      ∙ ap (λ (z : FinMap nat_cmp Entry). insert z q u.entry) v
