-- The maps that a list of tasks stands for.
use Rattle.std.proofs.Common.{◌≡◌, ℕ, ◌<◌, ◌≤◌, true, false, eqb, List, [], ◌∷◌, length, map, None, refl, ap, ◌∙◌, arith}
use Rattle.std.specs.{Option.option_map, Ordering.nat_cmp, Ordering.eq_by_cmp, FinMap.find}
use Rattle.std.specs.List.{IsDistinct, AllByRecursion, list_any}
use Rattle.std.proofs.{lemmas.Bool.Decides.nat_tests, lemmas.List.length-map, lemmas.Map.Steps.length-le_from_distinct_below}
use Rattle.eevdf_queue.specs.declared.task.Task.{Task}
use Rattle.eevdf_queue.specs.TaskLists.{find_task, entries_of, AreRunnable}
use Rattle.eevdf_queue.proofs.{AllTasks.apart, MapFolds.AreDistinct}

pub same_number : (q x : ℕ) → eq_by_cmp nat_cmp q x ≡ eqb x q
same_number q x = grind (arith, nat_tests)

pub turned : (a b : ℕ) → eqb a b ≡ eqb b a
turned a b = grind (arith, nat_tests)

pub find-entries_of : (ts : List Task) (q : ℕ) → find nat_cmp q (entries_of ts) ≡ option_map (λ t. t.entry) (find_task q ts)
find-entries_of [] q = refl
find-entries_of (t ∷ ts) q = grind (arith, nat_tests, same_number q t.number, find-entries_of ts q)

-- numbers differ and are below the limit
abbrev pub AreNumbered : List Task → Type 0
AreNumbered [] = Unit {0}
AreNumbered (t ∷ ts) = (find_task t.number ts ≡ None) × (t.number < 1024) × AreNumbered ts

pub numbered_runnable : (ts : List Task) → AreRunnable ts → AreNumbered ts
numbered_runnable [] h = tt
numbered_runnable (t ∷ ts) h = (h.0, h.1, numbered_runnable ts h.3)

pub distinct_entries_of : (ts : List Task) → AreNumbered ts → AreDistinct (entries_of ts)
distinct_entries_of [] h = tt
distinct_entries_of (t ∷ ts) h = (find-entries_of ts t.number ∙ ap (option_map (λ u. u.entry)) h.0, distinct_entries_of ts h.2)

-- there are at most as many tasks as numbers
numbers : List Task → List ℕ
numbers ts = map (λ t. t.number) ts

other : (x y : ℕ) → eqb y x ≡ false → eqb x y ≡ false
other x y e = grind (arith, nat_tests)

absent_numbers : (q : ℕ) (ts : List Task) → find_task q ts ≡ None → AllByRecursion (λ y. eqb q y ≡ false) (numbers ts)
unfolding numbers
absent_numbers q [] h = tt
absent_numbers q (t ∷ ts) h =
    let a = apart (eqb t.number q) t (find_task q ts) h in
    (other q t.number a.0, absent_numbers q ts a.1)

distinct_numbers : (ts : List Task) → AreNumbered ts → IsDistinct eqb (numbers ts)
unfolding numbers IsDistinct
distinct_numbers [] h = tt
distinct_numbers (t ∷ ts) h = (absent_numbers t.number ts h.0, distinct_numbers ts h.2)

numbers_below : (ts : List Task) → AreNumbered ts → (q : ℕ) → list_any (eqb q) (numbers ts) ≡ true → q < 1024
unfolding numbers
numbers_below [] h q s = cc
numbers_below (t ∷ ts) h q s = grind (arith, nat_tests, h.1, numbers_below ts h.2 q)

pub few : (ts : List Task) → AreNumbered ts → length ts ≤ 1024
unfolding numbers
few ts h =
    let k : length (numbers ts) ≤ 1024 = length-le_from_distinct_below (numbers ts) 1024 (distinct_numbers ts h) (numbers_below ts h) in
    omega (arith, length-map ts (λ t. t.number))
