-- Lists whose keys rise: they stay so, and their first and last are the earliest and the latest.
use Rattle.std.proofs.Common.{◌≡◌, ℕ, suc, ◌/◌, ◌<◌, ◌≤◌, Bool, true, false, cond, eqb, List, [], ◌∷◌, length, Option, Some, None, refl, sym, subst, ap, ◌∙◌, arith}
use Rattle.std.specs.Option.{option_map}
use Rattle.std.proofs.{Math.Pow.pow_mono, lemmas.Int.ints, lemmas.Bool.Decides.nat_tests}
use Rattle.eevdf_queue.specs.{declared.entry.Entry.Entry, declared.task.Task.Task, TaskLists.find_task, TaskLists.entries_of}
use Rattle.eevdf_queue.specs.{Order.earlier, Order.earliest, TreeShape.IsFull}
use Rattle.eevdf_queue.specs.Candidate.{is_running, later, latest_waiting}
use Rattle.eevdf_queue.specs.TreeTasks.{precedes, PrecedesAll, AreOrdered, IsSorted, insert_task, without, first_that, last_waiting, last_or, numbered_entry}
use Rattle.eevdf_queue.proofs.AllTasks.{apart, all-each, all-insert, all-without, all-found}
use Rattle.eevdf_queue.proofs.{Earliest.told, TreeOrder.precedes-trans}

other_way : (t u : Task) → precedes t u ≡ false → eqb u.number t.number ≡ false → precedes u t ≡ true
other_way t u p n =
    grind (arith, ints, nat_tests, told t.entry.d u.entry.d t.number u.number, told u.entry.d t.entry.d u.number t.number)

ordered_by : (t u : Task) (us : List Task) (b : Bool) → precedes t u ≡ b → AreOrdered (u ∷ us) → eqb u.number t.number ≡ false → AreOrdered (insert_task t us)
    → AreOrdered (cond b (t ∷ u ∷ us) (u ∷ insert_task t us))
ordered_by t u us true p o n i = ((p, all-each (λ x. precedes u x ≡ true) (λ x. precedes t x ≡ true) (λ x. precedes-trans t u x p) us o.0), o)
ordered_by t u us false p o n i = (all-insert (λ x. precedes u x ≡ true) t us (other_way t u p n) o.0, i)

pub ordered-insert : (t : Task) (ts : List Task) → AreOrdered ts → find_task t.number ts ≡ None → AreOrdered (insert_task t ts)
ordered-insert t [] o n = (tt, tt)
ordered-insert t (u ∷ us) o n =
    let a = apart (eqb u.number t.number) u (find_task t.number us) n in
    ordered_by t u us (precedes t u) refl o a.0 (ordered-insert t us o.1 a.1)

pub ordered-without : (q : ℕ) (ts : List Task) → AreOrdered ts → AreOrdered (without q ts)
ordered-without q [] o = tt
ordered-without q (x ∷ xs) o =
    elim (eqb x.number q) as (λ b. AreOrdered (cond b xs (x ∷ without q xs))) [
      | true ↦ o.1
      | false ↦ (all-without (λ y. precedes x y ≡ true) q xs o.0, ordered-without q xs o.1)
    ]

-- the tree's own list after an insertion or a removal
pub sorted-insert : (ts rs : List Task) (t : Task) → IsSorted ts → find_task t.number ts ≡ None → length ts < 1024 → rs ≡ insert_task t ts → length rs ≡ suc (length ts) → IsSorted rs
sorted-insert ts rs t s n l e k = record {
  ordered = subst AreOrdered (sym e) (ordered-insert t ts s.ordered n);
  few = omega arith;
}

pub sorted-without : (q : ℕ) (ts rs : List Task) → IsSorted ts → rs ≡ without q ts → length ts ≡ suc (length rs) → IsSorted rs
sorted-without q ts rs s e k = record {
  ordered = subst AreOrdered (sym e) (ordered-without q ts s.ordered);
  few = let f = s.few in omega arith;
}

not_back : (t u : Task) → precedes t u ≡ true → precedes u t ≡ false
not_back t u p = grind (arith, ints, told t.entry.d u.entry.d t.number u.number, told u.entry.d t.entry.d u.number t.number)

earlier_first : (t : Task) (o : Option Task) → ((u : Task) → o ≡ Some u → precedes t u ≡ true) → earlier (numbered_entry t) (option_map numbered_entry o) ≡ numbered_entry t
earlier_first t None h = refl
earlier_first t (Some u) h = ap (λ b. cond b (numbered_entry u) (numbered_entry t)) (not_back t u (h u refl))

pub earliest-ordered : (passes : Entry → Bool) (ts : List Task) → AreOrdered ts → earliest passes (entries_of ts) ≡ option_map numbered_entry (first_that passes ts)
earliest-ordered passes [] o = refl
earliest-ordered passes (t ∷ ts) o =
    let first = earlier_first t (first_that passes ts) (λ u. all-found (λ x. precedes t x ≡ true) (λ x. passes x.entry) ts u o.0) in
    grind (arith, earliest-ordered passes ts o.1, first)

last_follows : (r : Option ℕ) (t : Task) (ts : List Task) (u : Task) → PrecedesAll t ts → last_waiting r ts ≡ Some u → precedes t u ≡ true
last_follows r t [] u a h = cc
last_follows r t (x ∷ xs) u a h = by (last_waiting r xs) (last_follows r t xs u a.1) h
  where
    by : (o : Option Task) → (o ≡ Some u → precedes t u ≡ true) → last_or x r o ≡ Some u → precedes t u ≡ true
    by (Some w) k h = k h
    by None k h = grind (arith, nat_tests, a.0)

latest_step : (r : Option ℕ) (t : Task) (o : Option Task) → ((u : Task) → o ≡ Some u → precedes t u ≡ true)
    → cond (is_running r t.number) (option_map numbered_entry o) (Some (later (numbered_entry t) (option_map numbered_entry o))) ≡ option_map numbered_entry (last_or t r o)
latest_step r t None h = let at : Bool = is_running r t.number in grind (arith, nat_tests)
latest_step r t (Some u) h = let p = h u refl in grind (arith, nat_tests, p)

pub latest-ordered : (r : Option ℕ) (ts : List Task) → AreOrdered ts → latest_waiting r (entries_of ts) ≡ option_map numbered_entry (last_waiting r ts)
latest-ordered r [] o = refl
latest-ordered r (t ∷ ts) o =
    ap (λ (z : Option (ℕ × Entry)). cond (is_running r t.number) z (Some (later (numbered_entry t) z))) (latest-ordered r ts o.1)
    ∙ latest_step r t (last_waiting r ts) (λ u. last_follows r t ts u o.0)

pub full-lower : (k h n : ℕ) → k ≤ h → IsFull h n → IsFull k n
full-lower k h n l f = let e : k / 2 ≤ h / 2 = omega arith in omega (arith, pow_mono e)

-- the same of the list that a tree is seen as
number_of : (o : Option Task) → option_map (λ (t : Task). t.number) o ≡ option_map (λ (a : ℕ × Entry). a.0) (option_map numbered_entry o)
number_of None = refl
number_of (Some t) = refl

pub earliest_found : (passes : Entry → Bool) (ts vs : List Task) → ts ≡ vs → IsSorted ts
    → option_map (λ (t : Task). t.number) (first_that passes ts) ≡ option_map (λ (a : ℕ × Entry). a.0) (earliest passes (entries_of vs))
earliest_found passes ts vs e s =
    number_of (first_that passes ts)
    ∙ ap (option_map (λ (a : ℕ × Entry). a.0)) (sym (earliest-ordered passes ts s.ordered) ∙ ap (λ (z : List Task). earliest passes (entries_of z)) e)

numbered : {X : Type 0} (read : X → Task) (o : Option X) → option_map (λ x. numbered_entry (read x)) o ≡ option_map numbered_entry (option_map read o)
numbered read None = refl
numbered read (Some x) = refl

pub latest_found : {X : Type 0} (read : X → Task) (r : Option ℕ) (ts vs : List Task) (o : Option X) → ts ≡ vs → IsSorted ts → option_map read o ≡ last_waiting r ts
    → option_map (λ x. numbered_entry (read x)) o ≡ latest_waiting r (entries_of vs)
latest_found read r ts vs o e s h =
    numbered read o
    ∙ ap (option_map numbered_entry) h
    ∙ sym (latest-ordered r ts s.ordered)
    ∙ ap (λ (z : List Task). latest_waiting r (entries_of z)) e
