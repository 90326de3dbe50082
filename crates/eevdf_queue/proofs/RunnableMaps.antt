-- What is asked of the map of runnable tasks, answered from a list of them.
use Rattle.std.proofs.Common.{◌≡◌, ◌≢◌, ℕ, suc, ◌+◌, ◌*◌, ◌<◌, ◌≤◌, Bool, true, false, cond, eqb, List, [], ◌∷◌, length, Option, Some, None, refl, sym, ap, ◌∙◌, arith}
use Rattle.std.specs.Prelude.{pos, ◌+ℤ◌, ◌*ℤ◌, is_some}
use Rattle.std.specs.{Option.option_map, Ordering.nat_cmp, Ordering.eq_by_cmp, Cmp.nat_cmp_total}
use Rattle.std.specs.FinMap.{FinMap, empty, insert, get, len, entries, nat_cmp-IsAntisymmetric, len-entries, get-from_entries, get-insert, same_map}
use Rattle.std.proofs.{lemmas.Int.ints, lemmas.Bool.Decides.nat_tests}
use Rattle.eevdf_weight.specs.Weight.{weight_of}
use Rattle.eevdf_queue.specs.{declared.entry.Entry.Entry, declared.task.Task.Task, Order.earliest, Moves.is_entry_in_range}
use Rattle.eevdf_queue.specs.Kept.{AreInRange}
use Rattle.eevdf_queue.specs.Sums.{sum_weights, sum_moments, total_weight, total_moment}
use Rattle.eevdf_queue.specs.TaskLists.{find_task, set_entry, entries_of, runnable_in, AreRunnable}
use Rattle.eevdf_queue.proofs.{Bounds.sum_weights_small, Bounds.sum_moments_small, MapFolds.fold-from_entries, Earliest.taken}
use Rattle.eevdf_queue.proofs.Earliest.{taken-swap}
use Rattle.eevdf_queue.proofs.ListMaps.{find-entries_of, numbered_runnable, distinct_entries_of, few}

pub runnable_in-none : runnable_in [] ≡ empty
unfolding runnable_in
runnable_in-none = refl

pub runnable_in-push : (t : Task) (ts : List Task) → runnable_in (t ∷ ts) ≡ insert (runnable_in ts) t.number t.entry
unfolding runnable_in
runnable_in-push t ts = refl

pub get-runnable_in : (ts : List Task) (q : ℕ) → get (runnable_in ts) q ≡ option_map (λ t. t.entry) (find_task q ts)
unfolding runnable_in
get-runnable_in ts q = get-from_entries nat_cmp_total (entries_of ts) q ∙ find-entries_of ts q

-- a list is seen as the map in which the same is found
pub seen_as : (ts : List Task) (m : FinMap nat_cmp Entry) → ((x : ℕ) → option_map (λ t. t.entry) (find_task x ts) ≡ get m x) → runnable_in ts ≡ m
seen_as ts m h = same_map nat_cmp_total nat_cmp-IsAntisymmetric _ _ (λ x. get-runnable_in ts x ∙ h x)

pub folded : {A : Type 0} (F : List (ℕ × Entry) → A) (op : ℕ × Entry → A → A)
    (first : (e : ℕ × Entry) (es : List (ℕ × Entry)) → F (e ∷ es) ≡ op e (F es))
    (swap : (a b : ℕ × Entry) (x : A) → a.0 ≢ b.0 → op a (op b x) ≡ op b (op a x))
    (ts : List Task) → AreRunnable ts → F (entries (runnable_in ts)) ≡ F (entries_of ts)
unfolding runnable_in
folded F op first swap ts h =
    fold-from_entries F op first swap (entries_of ts) (distinct_entries_of ts (numbered_runnable ts h))

pub total_weight-runnable_in : (ts : List Task) → AreRunnable ts → total_weight (runnable_in ts) ≡ sum_weights (entries_of ts)
total_weight-runnable_in ts h =
    folded sum_weights (λ e n. weight_of e.1.nice + n) (λ e es. refl) (λ a b x ne. omega arith) ts h

pub total_moment-runnable_in : (ts : List Task) → AreRunnable ts → total_moment (runnable_in ts) ≡ sum_moments (entries_of ts)
total_moment-runnable_in ts h =
    folded sum_moments (λ e z. (e.1.v *ℤ pos (weight_of e.1.nice)) +ℤ z) (λ e es. refl) (λ a b x ne. omega (arith, ints)) ts h

pub earliest-runnable_in : (passes : Entry → Bool) (ts : List Task) → AreRunnable ts → earliest passes (entries (runnable_in ts)) ≡ earliest passes (entries_of ts)
earliest-runnable_in passes ts h =
    folded (earliest passes) (taken passes) (λ e es. refl) (taken-swap passes) ts h

length-entries_of : (ts : List Task) → length (entries_of ts) ≡ length ts
length-entries_of [] = refl
length-entries_of (t ∷ ts) = ap suc (length-entries_of ts)

pub len-runnable_in : (ts : List Task) → AreRunnable ts → len (runnable_in ts) ≡ length ts
len-runnable_in ts h =
    len-entries (runnable_in ts)
    ∙ folded length (λ e n. suc n) (λ e es. refl) (λ a b x ne. refl) ts h
    ∙ length-entries_of ts

pub few_runnable : (ts : List Task) → AreRunnable ts → length ts ≤ 1024
few_runnable ts h = few ts (numbered_runnable ts h)

pub light : (ts : List Task) → AreRunnable ts → sum_weights (entries_of ts) ≤ 88761 * 1024
light ts h = let a = sum_weights_small ts in let b = few_runnable ts h in omega arith

-- another entry at one number
find-set_entry : (x q : ℕ) (e : Entry) (ts : List Task) → is_some (find_task q ts) ≡ true
    → option_map (λ t. t.entry) (find_task x (set_entry q e ts)) ≡ cond (eq_by_cmp nat_cmp x q) (Some e) (option_map (λ t. t.entry) (find_task x ts))
find-set_entry x q e [] h = cc
find-set_entry x q e (t ∷ ts) h =
    grind (arith, nat_tests, find-set_entry x q e ts)

absent_after : (n q : ℕ) (e : Entry) (ts : List Task) → find_task n ts ≡ None → find_task n (set_entry q e ts) ≡ None
absent_after n q e [] h = h
absent_after n q e (t ∷ ts) h = grind (arith, nat_tests, absent_after n q e ts)

pub runnable_after : (q : ℕ) (e : Entry) (ts : List Task) → is_entry_in_range e ≡ true → AreRunnable ts → AreRunnable (set_entry q e ts)
runnable_after q e [] r h = h
runnable_after q e (t ∷ ts) r h =
    elim (eqb t.number q) as (λ b. AreRunnable (cond b (record t { entry = e } ∷ ts) (t ∷ set_entry q e ts))) [
      | true ↦ (h.0, h.1, r, h.3)
      | false ↦ (absent_after t.number q e ts h.0, h.1, h.2, runnable_after q e ts r h.3)
    ]

pub present : (o : Option Task) → is_some (option_map (λ (t : Task). t.entry) o) ≡ true → is_some o ≡ true
present None h = h
present (Some t) h = refl

pub runnable_in-set_entry : (q : ℕ) (e : Entry) (ts : List Task) → is_some (get (runnable_in ts) q) ≡ true → runnable_in (set_entry q e ts) ≡ insert (runnable_in ts) q e
runnable_in-set_entry q e ts h =
    let here : is_some (find_task q ts) ≡ true = present (find_task q ts) (ap is_some (sym (get-runnable_in ts q)) ∙ h) in
    seen_as (set_entry q e ts) _ (λ x.
    find-set_entry x q e ts here ∙ ap (cond (eq_by_cmp nat_cmp x q) (Some e)) (sym (get-runnable_in ts x)) ∙ sym (get-insert nat_cmp_total (runnable_in ts) q e x))

pub absent : (o : Option Task) → option_map (λ (t : Task). t.entry) o ≡ None → o ≡ None
absent None h = refl
absent (Some t) h = cc

pub runnable_with : (t : Task) (ts : List Task) → get (runnable_in ts) t.number ≡ None → t.number < 1024 → is_entry_in_range t.entry ≡ true → AreRunnable ts → AreRunnable (t ∷ ts)
runnable_with t ts h n r k = (absent (find_task t.number ts) (sym (get-runnable_in ts t.number) ∙ h), n, r, k)

abbrev InRange : ℕ → Entry → Type 0
InRange q e = (q < 1024) × (is_entry_in_range e ≡ true)

in_range_list : (ts : List Task) → AreRunnable ts → (q : ℕ) (e : Entry) → option_map (λ (u : Task). u.entry) (find_task q ts) ≡ Some e → InRange q e
in_range_list [] h q e k = cc
in_range_list (t ∷ ts) h q e k =
    let rest = in_range_list ts h.3 q e in
    (grind (arith, nat_tests, h.1, λ (i : _). (rest i).0), grind (arith, nat_tests, h.2, λ (i : _). (rest i).1))

pub in_range_in : (ts : List Task) → AreRunnable ts → AreInRange (runnable_in ts)
in_range_in ts h = λ q e k. in_range_list ts h q e (sym (get-runnable_in ts q) ∙ k)

pub ruleset basics = (runnable_in-none, runnable_in-push, get-runnable_in, runnable_with, in_range_in)

pub ruleset lengths = (few_runnable, len-runnable_in)

pub ruleset sums = (few_runnable, light, total_weight-runnable_in, total_moment-runnable_in, sum_moments_small, in_range_in)

pub ruleset firsts = (earliest-runnable_in)
