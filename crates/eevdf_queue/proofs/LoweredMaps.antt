-- Maps of runnable tasks that are lowered by a number in virtual time.
use Rattle.std.proofs.Common.{◌≡◌, ◌≢◌, ℕ, ◌+◌, Bool, true, false, ◌&&◌, cond, List, [], ◌∷◌, Option, Some, None, refl, sym, ap, ◌∙◌, length, suc, arith}
use Rattle.std.specs.Prelude.{ℤ, pos, is_some, ◌+ℤ◌, ◌-ℤ◌, ◌*ℤ◌, int_le}
use Rattle.std.specs.{Option.option_map, Ordering.nat_cmp, Ordering.eq_by_cmp, Cmp.nat_cmp_total}
use Rattle.std.specs.FinMap.{get, contains_key, insert, remove, entries, find, len, same_map, nat_cmp-IsAntisymmetric, get-from_entries, get-entries, get-insert, get-remove, len-entries}
use Rattle.std.proofs.lemmas.{Bool.Decides.nat_tests, Int.ints}
use Rattle.eevdf_weight.specs.Weight.{weight_of}
use Rattle.eevdf_queue.specs.{declared.entry.Entry.Entry, declared.task.Task.Task, Moves.is_entry_in_range}
use Rattle.eevdf_queue.specs.{Order.is_before, Order.earlier, Order.earliest, Candidate.later, Candidate.is_running, Candidate.latest_waiting, Candidate.candidate_of}
use Rattle.eevdf_queue.specs.Sums.{Tasks, sum_weights, sum_moments, total_weight, total_moment}
use Rattle.eevdf_queue.specs.Pick.{is_eligible_at, is_eligible, pick_of}
use Rattle.eevdf_queue.specs.Rebase.{lowered_entry, lowered_entries, lowered_tasks, are_entries_in_range, can_lower}
use Rattle.eevdf_queue.specs.{TaskLists.entries_of, TaskLists.find_task, TaskLists.runnable_in, TaskLists.AreRunnable}
use Rattle.eevdf_queue.specs.TreeLowering.{lowered_task, lowered_list, are_tasks_in_range}
use Rattle.eevdf_queue.proofs.{MapFolds.AreDistinct, MapFolds.fold-from_entries, SortedEntries.distinct_entries, Scaled.difference_scaled, Scaled.scaled_sum}
use Rattle.eevdf_queue.proofs.{Earliest.taken, Earliest.taken-swap, TreeCandidates.joined, TreeCandidates.latest-joined, TreeCandidates.joined-swap}
use Rattle.eevdf_queue.proofs.{RunnableMaps.folded, RunnableMaps.seen_as, RunnableMaps.get-runnable_in, LoweredLists.find-lowered, LoweredLists.lower_lt, LoweredLists.same_list, LoweredLists.all_in_range}

find-lowered_entries : (by : ℤ) (es : List (ℕ × Entry)) (q : ℕ) → find nat_cmp q (lowered_entries by es) ≡ option_map (lowered_entry by) (find nat_cmp q es)
find-lowered_entries by [] q = refl
find-lowered_entries by (e ∷ es) q =
    elim (eq_by_cmp nat_cmp q e.0) as (λ b. cond b (Some (lowered_entry by e.1)) (find nat_cmp q (lowered_entries by es)) ≡ option_map (lowered_entry by) (cond b (Some e.1) (find nat_cmp q es))) [
      | true ↦ refl
      | false ↦ find-lowered_entries by es q
    ]

pub get-lowered : (by : ℤ) (m : Tasks) (q : ℕ) → get (lowered_tasks by m) q ≡ option_map (lowered_entry by) (get m q)
get-lowered by m q =
    get-from_entries nat_cmp_total (lowered_entries by (entries m)) q
    ∙ find-lowered_entries by (entries m) q
    ∙ ap (option_map (lowered_entry by)) (sym (get-entries m q))

still_here : (by : ℤ) (o : Option Entry) → is_some (option_map (lowered_entry by) o) ≡ is_some o
still_here by None = refl
still_here by (Some e) = refl

pub contains-lowered : (by : ℤ) (m : Tasks) (q : ℕ) → contains_key (lowered_tasks by m) q ≡ contains_key m q
contains-lowered by m q = ap is_some (get-lowered by m q) ∙ still_here by (get m q)

distinct_lowered : (by : ℤ) (es : List (ℕ × Entry)) → AreDistinct es → AreDistinct (lowered_entries by es)
distinct_lowered by [] h = tt
distinct_lowered by (e ∷ es) h =
    (find-lowered_entries by es e.0 ∙ ap (option_map (lowered_entry by)) h.0, distinct_lowered by es h.1)

-- a sum over the entries
over_lowered : {A : Type 0} (F : List (ℕ × Entry) → A) (op : ℕ × Entry → A → A)
    (first : (e : ℕ × Entry) (es : List (ℕ × Entry)) → F (e ∷ es) ≡ op e (F es))
    (swap : (a b : ℕ × Entry) (x : A) → a.0 ≢ b.0 → op a (op b x) ≡ op b (op a x))
    (by : ℤ) (m : Tasks) → F (entries (lowered_tasks by m)) ≡ F (lowered_entries by (entries m))
over_lowered F op first swap by m =
    fold-from_entries F op first swap (lowered_entries by (entries m)) (distinct_lowered by (entries m) (distinct_entries m))

length-lowered_entries : (by : ℤ) (es : List (ℕ × Entry)) → length (lowered_entries by es) ≡ length es
length-lowered_entries by [] = refl
length-lowered_entries by (e ∷ es) = ap suc (length-lowered_entries by es)

pub len-lowered : (by : ℤ) (m : Tasks) → len (lowered_tasks by m) ≡ len m
len-lowered by m =
    len-entries (lowered_tasks by m)
    ∙ over_lowered length (λ e n. suc n) (λ e es. refl) (λ a b x ne. refl) by m
    ∙ length-lowered_entries by (entries m)
    ∙ sym (len-entries m)

pub weights-lowered : (by : ℤ) (es : List (ℕ × Entry)) → sum_weights (lowered_entries by es) ≡ sum_weights es
weights-lowered by [] = refl
weights-lowered by (e ∷ es) = ap (λ (n : ℕ). weight_of e.1.nice + n) (weights-lowered by es)

pub weight-lowered : (by : ℤ) (m : Tasks) → total_weight (lowered_tasks by m) ≡ total_weight m
weight-lowered by m =
    over_lowered sum_weights (λ e n. weight_of e.1.nice + n) (λ e es. refl) (λ a b x ne. omega arith) by m
    ∙ weights-lowered by (entries m)

one_moment : (by v M L : ℤ) (w n : ℕ) → L ≡ M -ℤ (by *ℤ pos n) → ((v -ℤ by) *ℤ pos w) +ℤ L ≡ ((v *ℤ pos w) +ℤ M) -ℤ (by *ℤ pos (w + n))
one_moment by v M L w n h = omega (arith, ints, h, difference_scaled v by w, scaled_sum by w n)

pub moments-lowered : (by : ℤ) (es : List (ℕ × Entry)) → sum_moments (lowered_entries by es) ≡ sum_moments es -ℤ (by *ℤ pos (sum_weights es))
moments-lowered by [] = omega (arith, ints)
moments-lowered by (e ∷ es) =
    one_moment by e.1.v (sum_moments es) (sum_moments (lowered_entries by es)) (weight_of e.1.nice) (sum_weights es) (moments-lowered by es)

pub moment-lowered : (by : ℤ) (m : Tasks) → total_moment (lowered_tasks by m) ≡ total_moment m -ℤ (by *ℤ pos (total_weight m))
moment-lowered by m =
    over_lowered sum_moments (λ e z. (e.1.v *ℤ pos (weight_of e.1.nice)) +ℤ z) (λ e es. refl) (λ a b x ne. omega (arith, ints)) by m
    ∙ moments-lowered by (entries m)

-- who is first and who is last
abbrev lowered_pair : ℤ → ℕ × Entry → ℕ × Entry
lowered_pair by a = (a.0, lowered_entry by a.1)

same_before : (by : ℤ) (a b : ℕ × Entry) → is_before (lowered_pair by a) (lowered_pair by b) ≡ is_before a b
same_before by a b = grind (arith, ints, nat_tests, lower_lt by a.1.d b.1.d, lower_lt by b.1.d a.1.d)

chosen : (by : ℤ) (t : Bool) (a b : ℕ × Entry) → cond t (lowered_pair by b) (lowered_pair by a) ≡ lowered_pair by (cond t b a)
chosen by true a b = refl
chosen by false a b = refl

earlier-lowered : (by : ℤ) (a : ℕ × Entry) (o : Option (ℕ × Entry)) → earlier (lowered_pair by a) (option_map (lowered_pair by) o) ≡ lowered_pair by (earlier a o)
earlier-lowered by a None = refl
earlier-lowered by a (Some b) = ap (λ (t : Bool). cond t (lowered_pair by b) (lowered_pair by a)) (same_before by b a) ∙ chosen by (is_before b a) a b

later-lowered : (by : ℤ) (a : ℕ × Entry) (o : Option (ℕ × Entry)) → later (lowered_pair by a) (option_map (lowered_pair by) o) ≡ lowered_pair by (later a o)
later-lowered by a None = refl
later-lowered by a (Some b) = ap (λ (t : Bool). cond t (lowered_pair by b) (lowered_pair by a)) (same_before by a b) ∙ chosen by (is_before a b) a b

taken-lowered : (by : ℤ) (t : Bool) (a : ℕ × Entry) (o : Option (ℕ × Entry))
    → cond t (Some (earlier (lowered_pair by a) (option_map (lowered_pair by) o))) (option_map (lowered_pair by) o) ≡ option_map (lowered_pair by) (cond t (Some (earlier a o)) o)
taken-lowered by true a o = ap (λ (x : ℕ × Entry). Some x) (earlier-lowered by a o)
taken-lowered by false a o = refl

earliest-lowered : (by : ℤ) (f g : Entry → Bool) (es : List (ℕ × Entry)) → ((e : Entry) → g (lowered_entry by e) ≡ f e)
    → earliest g (lowered_entries by es) ≡ option_map (lowered_pair by) (earliest f es)
earliest-lowered by f g [] h = refl
earliest-lowered by f g (e ∷ es) h =
    ap (λ (t : Bool). cond t (Some (earlier (lowered_pair by e) (earliest g (lowered_entries by es)))) (earliest g (lowered_entries by es))) (h e.1)
    ∙ ap (λ (o : Option (ℕ × Entry)). cond (f e.1) (Some (earlier (lowered_pair by e) o)) o) (earliest-lowered by f g es h)
    ∙ taken-lowered by (f e.1) e (earliest f es)

passed-lowered : (by : ℤ) (t : Bool) (a : ℕ × Entry) (o : Option (ℕ × Entry))
    → cond t (option_map (lowered_pair by) o) (Some (later (lowered_pair by a) (option_map (lowered_pair by) o))) ≡ option_map (lowered_pair by) (cond t o (Some (later a o)))
passed-lowered by true a o = refl
passed-lowered by false a o = ap (λ (x : ℕ × Entry). Some x) (later-lowered by a o)

latest-lowered : (by : ℤ) (r : Option ℕ) (es : List (ℕ × Entry)) → latest_waiting r (lowered_entries by es) ≡ option_map (lowered_pair by) (latest_waiting r es)
latest-lowered by r [] = refl
latest-lowered by r (e ∷ es) =
    ap (λ (o : Option (ℕ × Entry)). cond (is_running r e.0) o (Some (later (lowered_pair by e) o))) (latest-lowered by r es)
    ∙ passed-lowered by (is_running r e.0) e (latest_waiting r es)

numbers-lowered : (by : ℤ) (o : Option (ℕ × Entry)) → option_map (λ (a : ℕ × Entry). a.0) (option_map (lowered_pair by) o) ≡ option_map (λ (a : ℕ × Entry). a.0) o
numbers-lowered by None = refl
numbers-lowered by (Some a) = refl

same_owed : (by v S : ℤ) (W : ℕ) → int_le ((v -ℤ by) *ℤ pos W) (S -ℤ (by *ℤ pos W)) ≡ int_le (v *ℤ pos W) S
same_owed by v S W = let e = difference_scaled v by W in grind (arith, ints, e)

same_eligible : (by : ℤ) (m : Tasks) (e : Entry) → is_eligible (lowered_tasks by m) (lowered_entry by e) ≡ is_eligible m e
same_eligible by m e =
    ap (λ (w : ℕ). is_eligible_at w (total_moment (lowered_tasks by m)) (lowered_entry by e)) (weight-lowered by m)
    ∙ ap (λ (s : ℤ). is_eligible_at (total_weight m) s (lowered_entry by e)) (moment-lowered by m)
    ∙ same_owed by e.v (total_moment m) (total_weight m)

pub pick-lowered : (by : ℤ) (m : Tasks) → pick_of (lowered_tasks by m) ≡ pick_of m
pick-lowered by m =
    let g : Entry → Bool = is_eligible (lowered_tasks by m) in
    ap (option_map (λ (a : ℕ × Entry). a.0))
    (over_lowered (earliest g) (taken g) (λ e es. refl) (taken-swap g) by m ∙ earliest-lowered by (is_eligible m) g (entries m) (same_eligible by m))
    ∙ numbers-lowered by (earliest (is_eligible m) (entries m))

pub candidate-lowered : (by : ℤ) (m : Tasks) (r : Option ℕ) → candidate_of (lowered_tasks by m) r ≡ candidate_of m r
candidate-lowered by m r =
    ap (option_map (λ (a : ℕ × Entry). a.0))
    (over_lowered (latest_waiting r) (joined r) (latest-joined r) (joined-swap r) by m ∙ latest-lowered by r (entries m))
    ∙ numbers-lowered by (latest_waiting r (entries m))

-- one more task, and one less
with_one : (by : ℤ) (b : Bool) (e : Entry) (o : Option Entry) → option_map (lowered_entry by) (cond b (Some e) o) ≡ cond b (Some (lowered_entry by e)) (option_map (lowered_entry by) o)
with_one by true e o = refl
with_one by false e o = refl

without_one : (by : ℤ) (b : Bool) (o : Option Entry) → option_map (lowered_entry by) (cond b None o) ≡ cond b None (option_map (lowered_entry by) o)
without_one by true o = refl
without_one by false o = refl

pub insert-lowered : (by : ℤ) (m : Tasks) (t : ℕ) (e : Entry) → lowered_tasks by (insert m t e) ≡ insert (lowered_tasks by m) t (lowered_entry by e)
insert-lowered by m t e =
    same_map nat_cmp_total nat_cmp-IsAntisymmetric _ _ (λ q.
    get-lowered by (insert m t e) q
    ∙ ap (option_map (lowered_entry by)) (get-insert nat_cmp_total m t e q)
    ∙ with_one by (eq_by_cmp nat_cmp q t) e (get m q)
    ∙ ap (cond (eq_by_cmp nat_cmp q t) (Some (lowered_entry by e))) (sym (get-lowered by m q))
    ∙ sym (get-insert nat_cmp_total (lowered_tasks by m) t (lowered_entry by e) q))

pub remove-lowered : (by : ℤ) (m : Tasks) (t : ℕ) → lowered_tasks by (remove m t) ≡ remove (lowered_tasks by m) t
remove-lowered by m t =
    same_map nat_cmp_total nat_cmp-IsAntisymmetric _ _ (λ q.
    get-lowered by (remove m t) q
    ∙ ap (option_map (lowered_entry by)) (get-remove nat_cmp_total m t q)
    ∙ without_one by (eq_by_cmp nat_cmp q t) (get m q)
    ∙ ap (cond (eq_by_cmp nat_cmp q t) None) (sym (get-lowered by m q))
    ∙ sym (get-remove nat_cmp_total (lowered_tasks by m) t q))

-- the map that a lowered list is seen as
entry-lowered : (by : ℤ) (o : Option Task) → option_map (λ (t : Task). t.entry) (option_map (lowered_task by) o) ≡ option_map (lowered_entry by) (option_map (λ (t : Task). t.entry) o)
entry-lowered by None = refl
entry-lowered by (Some t) = refl

pub seen-lowered : (by : ℤ) (ts : List Task) → runnable_in (lowered_list by ts) ≡ lowered_tasks by (runnable_in ts)
seen-lowered by ts =
    seen_as (lowered_list by ts) _ (λ x.
    ap (option_map (λ (t : Task). t.entry)) (find-lowered by x ts)
    ∙ entry-lowered by (find_task x ts)
    ∙ ap (option_map (lowered_entry by)) (sym (get-runnable_in ts x))
    ∙ sym (get-lowered by (runnable_in ts) x))

pub entries_of-lowered : (by : ℤ) (ts : List Task) → entries_of (lowered_list by ts) ≡ lowered_entries by (entries_of ts)
entries_of-lowered by [] = refl
entries_of-lowered by (t ∷ ts) = ap (λ (es : List (ℕ × Entry)). (t.number, lowered_entry by t.entry) ∷ es) (entries_of-lowered by ts)

and_swapped : (a b x : Bool) → (a && (b && x)) ≡ (b && (a && x))
and_swapped a b x = grind arith

tasks_by_entries : (ts : List Task) → are_entries_in_range (entries_of ts) ≡ are_tasks_in_range ts
tasks_by_entries [] = refl
tasks_by_entries (t ∷ ts) = ap (λ (b : Bool). is_entry_in_range t.entry && b) (tasks_by_entries ts)

pub can-lower : (by : ℤ) (ts : List Task) → AreRunnable ts → can_lower by (runnable_in ts) ≡ are_tasks_in_range (lowered_list by ts)
can-lower by ts h =
    folded (λ es. are_entries_in_range (lowered_entries by es)) (λ e b. is_entry_in_range (lowered_entry by e.1) && b) (λ e es. refl)
    (λ a b x ne. and_swapped (is_entry_in_range (lowered_entry by a.1)) (is_entry_in_range (lowered_entry by b.1)) x) ts h
    ∙ ap are_entries_in_range (sym (entries_of-lowered by ts))
    ∙ tasks_by_entries (lowered_list by ts)

-- tasks that are lowered by nothing
pub can_stay : (ts : List Task) → AreRunnable ts → can_lower (pos 0) (runnable_in ts) ≡ true
can_stay ts h = can-lower (pos 0) ts h ∙ ap are_tasks_in_range (same_list ts) ∙ all_in_range ts h

pub stays_lowered : (ts : List Task) → lowered_tasks (pos 0) (runnable_in ts) ≡ runnable_in ts
stays_lowered ts = sym (seen-lowered (pos 0) ts) ∙ ap runnable_in (same_list ts)
