-- Lists of tasks that are lowered by a number in virtual time.
use Rattle.std.proofs.Common.{◌≡◌, ℕ, suc, ◌^◌, ◌≤◌, Bool, true, false, ◌&&◌, cond, eqb, List, [], ◌∷◌, ◌++◌, length, Option, Some, None, refl, sym, subst, ap, ◌∙◌, arith}
use Rattle.std.specs.Prelude.{ℤ, pos, ◌-ℤ◌, neg_ℤ, int_lt, unsigned_abs}
use Rattle.std.specs.{Option.option_map, List.AllByRecursion}
use Rattle.std.proofs.lemmas.{Bool.Decides.nat_tests, Int.ints}
use Rattle.eevdf_queue.specs.{declared.task.Task.Task, Moves.is_entry_in_range, Rebase.lowered_entry}
use Rattle.eevdf_queue.specs.{NodeDepths.deeper, NodeDepths.depth_at, TaskLists.find_task, TaskLists.AreRunnable}
use Rattle.eevdf_queue.specs.TreeTasks.{precedes, PrecedesAll, AreOrdered, IsSorted}
use Rattle.eevdf_queue.specs.TreeLowering.{lowered_task, lowered_list, are_tasks_in_range, IsNear, noted_or}
use Rattle.eevdf_queue.specs.TreeStores.{kept_at, noted, IsNoted}
use Rattle.eevdf_queue.proofs.{Bounds.within, Bounds.range_v, Bounds.range_d, ListMaps.turned}

pub length-lowered : (by : ℤ) (ts : List Task) → length (lowered_list by ts) ≡ length ts
length-lowered by [] = refl
length-lowered by (t ∷ ts) = ap suc (length-lowered by ts)

lowered-append : (by : ℤ) (xs : List Task) (t : Task) (ys : List Task) → lowered_list by (xs ++ t ∷ ys) ≡ lowered_list by xs ++ lowered_task by t ∷ lowered_list by ys
lowered-append by [] t ys = refl
lowered-append by (x ∷ xs) t ys = ap (λ (z : List Task). lowered_task by x ∷ z) (lowered-append by xs t ys)

pub around_lowered : (by : ℤ) (ts xs ys xs' ys' : List Task) (t t' : Task) → ts ≡ xs ++ t ∷ ys → xs' ≡ lowered_list by xs → t' ≡ lowered_task by t → ys' ≡ lowered_list by ys
    → xs' ++ t' ∷ ys' ≡ lowered_list by ts
around_lowered by ts xs ys xs' ys' t t' e h i k =
    ap (λ (z : List Task). z ++ t' ∷ ys') h
    ∙ ap (λ (z : Task). lowered_list by xs ++ z ∷ ys') i
    ∙ ap (λ (z : List Task). lowered_list by xs ++ lowered_task by t ∷ z) k
    ∙ sym (lowered-append by xs t ys) ∙ ap (lowered_list by) (sym e)

pub find-lowered : (by : ℤ) (q : ℕ) (ts : List Task) → find_task q (lowered_list by ts) ≡ option_map (lowered_task by) (find_task q ts)
find-lowered by q [] = refl
find-lowered by q (t ∷ ts) =
    elim (eqb t.number q) as (λ b. cond b (Some (lowered_task by t)) (find_task q (lowered_list by ts)) ≡ option_map (lowered_task by) (cond b (Some t) (find_task q ts))) [
      | true ↦ refl
      | false ↦ find-lowered by q ts
    ]

-- how deep the nodes stand
deeper-lowered : (by : ℤ) (side : List (ℕ × ℕ)) (ts : List Task) → deeper side (lowered_list by ts) ≡ deeper side ts
deeper-lowered by side [] = refl
deeper-lowered by side (t ∷ ts) = ap (λ (z : List (ℕ × ℕ)). (t.number, suc (depth_at t.number side)) ∷ z) (deeper-lowered by side ts)

side_lowered : (by : ℤ) (ds ds' : List (ℕ × ℕ)) (ts ts' : List Task) → ds' ≡ ds → ts' ≡ lowered_list by ts → deeper ds' ts' ≡ deeper ds ts
side_lowered by ds ds' ts ts' h i = ap (λ (z : List (ℕ × ℕ)). deeper z ts') h ∙ ap (deeper ds) i ∙ deeper-lowered by ds ts

pub depths_lowered : (by : ℤ) (cs cs' ds ds' : List (ℕ × ℕ)) (xs xs' ys ys' : List Task) (t t' : Task) → cs' ≡ cs → xs' ≡ lowered_list by xs → t' ≡ lowered_task by t
    → ds' ≡ ds → ys' ≡ lowered_list by ys → deeper cs' xs' ++ (t'.number, 1) ∷ deeper ds' ys' ≡ deeper cs xs ++ (t.number, 1) ∷ deeper ds ys
depths_lowered by cs cs' ds ds' xs xs' ys ys' t t' h i k l m =
    ap (λ (z : List (ℕ × ℕ)). z ++ (t'.number, 1) ∷ deeper ds' ys') (side_lowered by cs cs' xs xs' h i)
    ∙ ap (λ (z : Task). deeper cs xs ++ (z.number, 1) ∷ deeper ds' ys') k
    ∙ ap (λ (z : List (ℕ × ℕ)). deeper cs xs ++ (t.number, 1) ∷ z) (side_lowered by ds ds' ys ys' l m)

-- the deadlines that are noted, from those of the two sides and of the task between them
by_number : (b : Bool) (d : ℤ) (t : Task) (o : Option Task) → cond b (noted t.entry.d) (noted_or d o) ≡ noted_or d (cond b (Some t) o)
by_number true d t o = refl
by_number false d t o = refl

found_around : (d : ℤ) (q : ℕ) (xs : List Task) (t : Task) (ys : List Task)
    → noted_or (cond (eqb q t.number) (noted t.entry.d) (noted_or d (find_task q ys))) (find_task q xs) ≡ noted_or d (find_task q (xs ++ t ∷ ys))
found_around d q [] t ys =
    ap (λ (b : Bool). cond b (noted t.entry.d) (noted_or d (find_task q ys))) (turned q t.number) ∙ by_number (eqb t.number q) d t (find_task q ys)
found_around d q (x ∷ xs) t ys =
    elim (eqb x.number q) as (λ b. noted_or (cond (eqb q t.number) (noted t.entry.d) (noted_or d (find_task q ys))) (cond b (Some x) (find_task q xs)) ≡ noted_or d (cond b (Some x) (find_task q (xs ++ t ∷ ys)))) [
      | true ↦ refl
      | false ↦ found_around d q xs t ys
    ]

pub noted_around : (q : ℕ) (d d' d'' d''' : ℤ) (xs : List Task) (t : Task) (ys : List Task) → d' ≡ noted_or d (find_task q ys) → d'' ≡ cond (eqb q t.number) (noted t.entry.d) d'
    → d''' ≡ noted_or d'' (find_task q xs) → d''' ≡ noted_or d (find_task q (xs ++ t ∷ ys))
noted_around q d d' d'' d''' xs t ys h i k =
    k ∙ ap (λ (z : ℤ). noted_or z (find_task q xs)) (i ∙ ap (cond (eqb q t.number) (noted t.entry.d)) h) ∙ found_around d q xs t ys

-- whether all are in range
both : (a b c d : Bool) → ((a && b) && (c && d)) ≡ (a && (b && (c && d)))
both a b c d = grind arith

pub in_range-around : (xs : List Task) (t : Task) (ys : List Task) → are_tasks_in_range (xs ++ t ∷ ys) ≡ (are_tasks_in_range xs && (is_entry_in_range t.entry && are_tasks_in_range ys))
in_range-around [] t ys = refl
in_range-around (x ∷ xs) t ys =
    ap (λ (b : Bool). is_entry_in_range x.entry && b) (in_range-around xs t ys)
    ∙ sym (both (is_entry_in_range x.entry) (are_tasks_in_range xs) (is_entry_in_range t.entry) (are_tasks_in_range ys))

and_first : (a b : Bool) → (a && b) ≡ true → a ≡ true
and_first a b h = grind arith

and_second : (a b : Bool) → (a && b) ≡ true → b ≡ true
and_second a b h = grind arith

pub missed : (by : ℤ) (q : ℕ) (ts : List Task) → find_task q ts ≡ None → find_task q (lowered_list by ts) ≡ None
missed by q ts h = find-lowered by q ts ∙ ap (option_map (lowered_task by)) h

pub runnable_lowered : (by : ℤ) (ts : List Task) → AreRunnable ts → are_tasks_in_range (lowered_list by ts) ≡ true → AreRunnable (lowered_list by ts)
runnable_lowered by [] h r = tt
runnable_lowered by (t ∷ ts) h r = (
  missed by t.number ts h.0,
  h.1,
  and_first (is_entry_in_range (lowered_entry by t.entry)) (are_tasks_in_range (lowered_list by ts)) r,
  runnable_lowered by ts h.3 (and_second (is_entry_in_range (lowered_entry by t.entry)) (are_tasks_in_range (lowered_list by ts)) r),
)

-- the order stays
pub lower_lt : (by a b : ℤ) → int_lt (a -ℤ by) (b -ℤ by) ≡ int_lt a b
lower_lt by a b = grind (arith, ints)

pub same_order : (by : ℤ) (t u : Task) → precedes (lowered_task by t) (lowered_task by u) ≡ precedes t u
same_order by t u = grind (arith, ints, nat_tests, lower_lt by t.entry.d u.entry.d, lower_lt by u.entry.d t.entry.d)

precedes_lowered : (by : ℤ) (t : Task) (us : List Task) → PrecedesAll t us → PrecedesAll (lowered_task by t) (lowered_list by us)
precedes_lowered by t [] h = tt
precedes_lowered by t (u ∷ us) h = (same_order by t u ∙ h.0, precedes_lowered by t us h.1)

ordered_lowered : (by : ℤ) (ts : List Task) → AreOrdered ts → AreOrdered (lowered_list by ts)
ordered_lowered by [] h = tt
ordered_lowered by (t ∷ ts) h = (precedes_lowered by t ts h.0, ordered_lowered by ts h.1)

pub sorted_lowered : (by : ℤ) (ts rs : List Task) → IsSorted ts → rs ≡ lowered_list by ts → IsSorted rs
sorted_lowered by ts rs s e = record {
  ordered = subst AreOrdered (sym e) (ordered_lowered by ts s.ordered);
  few = let f = s.few in omega (arith, f, ap length e, length-lowered by ts);
}

-- a table that has the deadline of each task that is found
noted_by : (table : List ℤ) (ts : List Task) → AreRunnable ts → ((t : Task) → find_task t.number ts ≡ Some t → IsNoted table t) → AllByRecursion (IsNoted table) ts
noted_by table [] r h = tt
noted_by table (t ∷ ts) r h = (
  h t (found_first t ts),
  noted_by table ts r.3 (λ u f. h u (behind t u ts r.0 f)),
)
  where
    found_first : (t : Task) (ts : List Task) → find_task t.number (t ∷ ts) ≡ Some t
    found_first t ts = ap (λ (b : Bool). cond b (Some t) (find_task t.number ts)) (let same : eqb t.number t.number ≡ true = grind (arith, nat_tests) in same)

    behind : (t u : Task) (ts : List Task) → find_task t.number ts ≡ None → find_task u.number ts ≡ Some u → find_task u.number (t ∷ ts) ≡ Some u
    behind t u ts none f = grind (arith, nat_tests)

pub noted_all : (table table' : List ℤ) (ts : List Task) → AreRunnable ts → ((q : ℕ) → kept_at table' q ≡ noted_or (kept_at table q) (find_task q ts)) → AllByRecursion (IsNoted table') ts
noted_all table table' ts r h = noted_by table' ts r (λ t f. h t.number ∙ ap (noted_or (kept_at table t.number)) f)

-- near enough to be lowered
near_by : (v by : ℤ) → unsigned_abs v ≤ 2 ^ 60 → unsigned_abs by ≤ 2 ^ 60 → unsigned_abs (v -ℤ by) ≤ 2 ^ 61
near_by v by h k = omega (arith, ints)

nearer : (n : ℕ) → n ≤ 2 ^ 60 → n ≤ 2 ^ 61
nearer n h = omega arith

pub near_runnable : (ts : List Task) → AreRunnable ts → AllByRecursion IsNear ts
near_runnable [] h = tt
near_runnable (t ∷ ts) h = ((nearer _ (within t.entry.v (range_v t.entry h.2)), nearer _ (within t.entry.d (range_d t.entry h.2))), near_runnable ts h.3)

pub near_lowered : (by : ℤ) (ts : List Task) → unsigned_abs by ≤ 2 ^ 60 → AreRunnable ts → AllByRecursion IsNear (lowered_list by ts)
near_lowered by [] s h = tt
near_lowered by (t ∷ ts) s h = (
  (near_by t.entry.v by (within t.entry.v (range_v t.entry h.2)) s, near_by t.entry.d by (within t.entry.d (range_d t.entry h.2)) s),
  near_lowered by ts s h.3,
)

-- lowered, and lowered by the opposite
back_time : (v by : ℤ) → (v -ℤ by) -ℤ neg_ℤ by ≡ v
back_time v by = omega (arith, ints)

back_task : (by : ℤ) (t : Task) → lowered_task (neg_ℤ by) (lowered_task by t) ≡ t
back_task by t =
    ap (λ (z : ℤ). record t { entry = record t.entry { v = z; d = (t.entry.d -ℤ by) -ℤ neg_ℤ by } }) (back_time t.entry.v by)
    ∙ ap (λ (z : ℤ). record t { entry = record t.entry { d = z } }) (back_time t.entry.d by)

pub back_list : (by : ℤ) (ts : List Task) → lowered_list (neg_ℤ by) (lowered_list by ts) ≡ ts
back_list by [] = refl
back_list by (t ∷ ts) = ap (λ (z : Task). z ∷ lowered_list (neg_ℤ by) (lowered_list by ts)) (back_task by t) ∙ ap (λ (z : List Task). t ∷ z) (back_list by ts)

-- lowered by nothing
same_task : (t : Task) → lowered_task (pos 0) t ≡ t
same_task t =
    ap (λ (z : ℤ). record t { entry = record t.entry { v = z; d = t.entry.d -ℤ pos 0 } }) (same_time t.entry.v)
    ∙ ap (λ (z : ℤ). record t { entry = record t.entry { d = z } }) (same_time t.entry.d)
  where
    same_time : (v : ℤ) → v -ℤ pos 0 ≡ v
    same_time v = omega (arith, ints)

pub same_list : (ts : List Task) → lowered_list (pos 0) ts ≡ ts
same_list [] = refl
same_list (t ∷ ts) = ap (λ (z : Task). z ∷ lowered_list (pos 0) ts) (same_task t) ∙ ap (λ (z : List Task). t ∷ z) (same_list ts)

-- runnable tasks are in range
pub all_in_range : (ts : List Task) → AreRunnable ts → are_tasks_in_range ts ≡ true
all_in_range [] h = refl
all_in_range (t ∷ ts) h = ap (λ (b : Bool). b && are_tasks_in_range ts) h.2 ∙ all_in_range ts h.3
