-- Sums over the entries of a map, and what another entry at a number does to them.
use Rattle.std.proofs.Common.{◌≡◌, ℕ, ◌<◌, ◌≤◌, Bool, true, false, cond, List, [], ◌∷◌, Some, None, T, refl, sym, ap, ◌∙◌, arith}
use Rattle.std.specs.Prelude.{ℤ, pos, ◌+ℤ◌, ◌*ℤ◌, ◌≤ℤ◌}
use Rattle.std.specs.{declared.cmp.Ordering.Ordering, Ordering.nat_cmp, Ordering.is_eq, Ordering.eq_by_cmp, Cmp.nat_cmp_total, Cmp.ranked}
use Rattle.std.specs.declared.cmp.Ordering.TheVariants.{Less, Equal, Greater}
use Rattle.std.specs.FinMap.{get, insert, entries, entries_sorted, find, put, is_sorted, get-entries, entries-insert}
use Rattle.std.specs.FinMap.Entries.{by_order}
use Rattle.std.proofs.lemmas.Int.{ints}
use Rattle.eevdf_weight.specs.Weight.{weight_of}
use Rattle.eevdf_queue.specs.{declared.entry.Entry.Entry, Sums.Tasks, Sums.sum_weights, Sums.sum_moments, Sums.total_weight, Sums.total_moment}
use Rattle.eevdf_queue.proofs.{Foremost.head, Foremost.behind, SortedEntries.none_found, SortedEntries.sorted_parts}

-- ---- what holds of each entry
abbrev pub Each : (Entry → Type 0) → List (ℕ × Entry) → Type 0
Each P [] = Unit {0}
Each P (e ∷ es) = P e.1 × Each P es

each_found : (P : Entry → Type 0) (es : List (ℕ × Entry)) → T (is_sorted nat_cmp es) → ((t : ℕ) (e : Entry) → find nat_cmp t es ≡ Some e → P e) → Each P es
each_found P [] s h = tt
each_found P (e ∷ es) s h =
    let parts = sorted_parts e es s in
    let absent : find nat_cmp e.0 es ≡ None = none_found e.0 e.0 es parts.0 (omega arith) in
    (h e.0 e.1 (head e es), each_found P es parts.1 (λ t f found. h t f (behind e (t, f) es absent found)))

-- what holds of each task holds of each entry of the list
pub each : (P : Entry → Type 0) (tasks : Tasks) → ((t : ℕ) (e : Entry) → get tasks t ≡ Some e → P e) → Each P (entries tasks)
each P tasks h = each_found P (entries tasks) (entries_sorted tasks) (λ t e found. h t e (get-entries tasks t ∙ found))

-- ---- sums
abbrev pub sum_of : (Entry → ℤ) → List (ℕ × Entry) → ℤ
sum_of f [] = pos 0
sum_of f (e ∷ es) = f e.1 +ℤ sum_of f es

abbrev pub sum_over : (Entry → ℤ) → Tasks → ℤ
sum_over f tasks = sum_of f (entries tasks)

at_least_none : (f : Entry → ℤ) (es : List (ℕ × Entry)) → Each (λ e. pos 0 ≤ℤ f e) es → pos 0 ≤ℤ sum_of f es
at_least_none f [] h = omega (arith, ints)
at_least_none f (e ∷ es) h = let rest = at_least_none f es h.1 in omega (arith, ints, h.0)

pub the_same : (a b : Entry) → Some a ≡ Some b → a ≡ b
the_same a b h = cc

member_by : (f : Entry → ℤ) (k : ℕ) (a : Entry) (e : ℕ × Entry) (es : List (ℕ × Entry)) (b : Bool) → Each (λ e. pos 0 ≤ℤ f e) (e ∷ es)
    → (find nat_cmp k es ≡ Some a → f a ≤ℤ sum_of f es) → cond b (Some e.1) (find nat_cmp k es) ≡ Some a → f a ≤ℤ (f e.1 +ℤ sum_of f es)
member_by f k a e es true h rest found =
    let same : f e.1 ≡ f a = ap f (the_same e.1 a found) in
    let none = at_least_none f es h.1 in
    omega (arith, ints, same)
member_by f k a e es false h rest found = let more = rest found in omega (arith, ints, h.0)

member : (f : Entry → ℤ) (k : ℕ) (a : Entry) (es : List (ℕ × Entry)) → Each (λ e. pos 0 ≤ℤ f e) es → find nat_cmp k es ≡ Some a → f a ≤ℤ sum_of f es
member f k a [] h found = cc
member f k a (e ∷ es) h found = member_by f k a e es (eq_by_cmp nat_cmp k e.0) h (member f k a es h.1) found

-- one of several numbers that aren't negative is at most their sum
pub one_of : (f : Entry → ℤ) (tasks : Tasks) (t : ℕ) (e : Entry) → Each (λ e. pos 0 ≤ℤ f e) (entries tasks) → get tasks t ≡ Some e → f e ≤ℤ sum_over f tasks
one_of f tasks t e h here = member f t e (entries tasks) h (sym (get-entries tasks t) ∙ here)

replaced_by : (f : Entry → ℤ) (k : ℕ) (a b : Entry) (e : ℕ × Entry) (es : List (ℕ × Entry)) (o : Ordering) → T (is_sorted nat_cmp (e ∷ es)) → nat_cmp k e.0 ≡ o
    → (find nat_cmp k es ≡ Some a → sum_of f (put nat_cmp k b es) +ℤ f a ≡ sum_of f es +ℤ f b)
    → cond (is_eq o) (Some e.1) (find nat_cmp k es) ≡ Some a
    → sum_of f (by_order o ((k, b) ∷ e ∷ es) ((e.0, b) ∷ es) (e ∷ put nat_cmp k b es)) +ℤ f a ≡ (f e.1 +ℤ sum_of f es) +ℤ f b
replaced_by f k a b e es Less s o rest found =
    let lt : k < e.0 = ranked k e.0 Less (sym o) in
    let none : find nat_cmp k es ≡ None = none_found k e.0 es (sorted_parts e es s).0 (omega arith) in
    cc
replaced_by f k a b e es Equal s o rest found =
    let same : f e.1 ≡ f a = ap f (the_same e.1 a found) in
    omega (arith, ints, same)
replaced_by f k a b e es Greater s o rest found = let more = rest found in omega (arith, ints, more)

replaced : (f : Entry → ℤ) (k : ℕ) (a b : Entry) (es : List (ℕ × Entry)) → T (is_sorted nat_cmp es) → find nat_cmp k es ≡ Some a
    → sum_of f (put nat_cmp k b es) +ℤ f a ≡ sum_of f es +ℤ f b
replaced f k a b [] s found = cc
replaced f k a b (e ∷ es) s found =
    replaced_by f k a b e es (nat_cmp k e.0) s refl (replaced f k a b es (sorted_parts e es s).1) found

-- another entry at a number: the sum has the new summand in place of the old one
pub sum_insert : (f : Entry → ℤ) (tasks : Tasks) (t : ℕ) (a b : Entry) → get tasks t ≡ Some a
    → sum_over f (insert tasks t b) +ℤ f a ≡ sum_over f tasks +ℤ f b
sum_insert f tasks t a b here =
    ap (λ es. sum_of f es +ℤ f a) (entries-insert nat_cmp_total tasks t b)
    ∙ replaced f t a b (entries tasks) (entries_sorted tasks) (sym (get-entries tasks t) ∙ here)

added_by : (f : Entry → ℤ) (k : ℕ) (b : Entry) (e : ℕ × Entry) (es : List (ℕ × Entry)) (o : Ordering)
    → (find nat_cmp k es ≡ None → sum_of f (put nat_cmp k b es) ≡ sum_of f es +ℤ f b)
    → cond (is_eq o) (Some e.1) (find nat_cmp k es) ≡ None
    → sum_of f (by_order o ((k, b) ∷ e ∷ es) ((e.0, b) ∷ es) (e ∷ put nat_cmp k b es)) ≡ (f e.1 +ℤ sum_of f es) +ℤ f b
added_by f k b e es Less rest none = omega (arith, ints)
added_by f k b e es Equal rest none = cc
added_by f k b e es Greater rest none = let more = rest none in omega (arith, ints, more)

added : (f : Entry → ℤ) (k : ℕ) (b : Entry) (es : List (ℕ × Entry)) → find nat_cmp k es ≡ None → sum_of f (put nat_cmp k b es) ≡ sum_of f es +ℤ f b
added f k b [] none = omega (arith, ints)
added f k b (e ∷ es) none = added_by f k b e es (nat_cmp k e.0) (added f k b es) none

-- an entry at a new number: the sum has one summand more
pub sum_added : (f : Entry → ℤ) (tasks : Tasks) (t : ℕ) (b : Entry) → get tasks t ≡ None → sum_over f (insert tasks t b) ≡ sum_over f tasks +ℤ f b
sum_added f tasks t b none =
    ap (sum_of f) (entries-insert nat_cmp_total tasks t b) ∙ added f t b (entries tasks) (sym (get-entries tasks t) ∙ none)

-- ---- the sums of the model
abbrev pub weight : Entry → ℤ
weight e = pos (weight_of e.nice)

abbrev pub moment : Entry → ℤ
moment e = e.v *ℤ pos (weight_of e.nice)

weights_by : (es : List (ℕ × Entry)) → sum_of weight es ≡ pos (sum_weights es)
weights_by [] = refl
weights_by (e ∷ es) = let rest = weights_by es in omega (arith, ints, rest)

moments_by : (es : List (ℕ × Entry)) → sum_of moment es ≡ sum_moments es
moments_by [] = refl
moments_by (e ∷ es) = ap (λ (z : ℤ). (e.1.v *ℤ pos (weight_of e.1.nice)) +ℤ z) (moments_by es)

pub weights : (tasks : Tasks) → sum_over weight tasks ≡ pos (total_weight tasks)
weights tasks = weights_by (entries tasks)

pub moments : (tasks : Tasks) → sum_over moment tasks ≡ total_moment tasks
moments tasks = moments_by (entries tasks)

none_negative : (es : List (ℕ × Entry)) → Each (λ e. pos 0 ≤ℤ weight e) es
none_negative [] = tt
none_negative (e ∷ es) = (omega (arith, ints), none_negative es)

-- a task weighs no more than all
pub no_heavier : (tasks : Tasks) (t : ℕ) (e : Entry) → get tasks t ≡ Some e → weight_of e.nice ≤ total_weight tasks
no_heavier tasks t e here =
    let one = one_of weight tasks t e (none_negative (entries tasks)) here in
    omega (arith, ints, one, weights tasks)

-- the weight of all stays where that of one does
pub same_weight : (m n w x : ℕ) (A B : ℤ) → A ≡ pos m → B ≡ pos n → A +ℤ pos w ≡ B +ℤ pos x → x ≡ w → m ≡ n
same_weight m n w x A B h k l e = omega (arith, ints, h, k, l, e)
