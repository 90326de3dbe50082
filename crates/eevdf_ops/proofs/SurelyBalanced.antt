-- Where two tasks are runnable one of them waits, so a source that is no heavier than who pulls is balanced.
use Rattle.std.proofs.Common.{◌≡◌, ℕ, ◌+◌, ◌<◌, ◌≤◌, Bool, true, false, cond, List, [], ◌∷◌, length, T, refl, sym, ap, subst, ◌∙◌, arith}
use Rattle.std.specs.Prelude.{is_some, nat_lt, Option, Some, None, Ok, Err}
use Rattle.std.specs.Option.{option_map, option_and_then}
use Rattle.std.specs.{Ordering.nat_cmp, Ordering.eq_by_cmp, Cmp.unsigned_tied}
use Rattle.std.specs.FinMap.{entries, entries_sorted, find, get, get-entries, is_sorted, len, len-entries}
use Rattle.std.proofs.lemmas.Bool.Decides.{nat_tests}
use Rattle.eevdf_weight.specs.Weight.{weight_of}
use Rattle.eevdf_queue.specs.{declared.entry.Entry.Entry, State.State, State.Contents, Lag.kept_lag, Leaving.carried, Leaving.leaving}
use Rattle.eevdf_queue.specs.Candidate.{is_running, later, latest_waiting}
use Rattle.eevdf_queue.specs.{Moves.sleeper_of, Order.is_before, Placing.can_place}
use Rattle.eevdf_ops.specs.{declared.deeds.Answer.TheVariants.Balanced, declared.deeds.Answer.TheVariants.Range}
use Rattle.eevdf_queue.proofs.SortedEntries.{first_above, sorted_parts}
use Rattle.eevdf_ops.specs.WholePull.{decision, load_of, offer}
use Rattle.eevdf_ops.proofs.MapCounts.{equal, itself}

-- at most one number is the running task's
one-runs : (r : Option ℕ) (j k : ℕ) → is_running r j ≡ true → is_running r k ≡ true → j < k → ⊥
one-runs None j k a b less = cc
one-runs (Some q) j k a b less = let x : j ≡ q = equal j q a in let y : k ≡ q = equal k q b in omega (arith, x, y, less)

one-waits : (x y : Bool) (rest first second : Option (ℕ × Entry)) → (x ≡ true → y ≡ true → ⊥) → is_some first ≡ true → is_some second ≡ true → is_some (cond x (cond y rest second) first) ≡ true
one-waits true true rest first second never a b = absurd (never refl refl)
one-waits true false rest first second never a b = b
one-waits false y rest first second never a b = a

-- of two entries one waits
of-two : (r : Option ℕ) (es : List (ℕ × Entry)) → T (is_sorted nat_cmp es) → 1 < length es → is_some (latest_waiting r es) ≡ true
of-two r [] sorted many = absurd (omega (arith, many))
of-two r (a ∷ []) sorted many = absurd (omega (arith, many))
of-two r (a ∷ b ∷ es) sorted many =
    let rises : a.0 < b.0 = (first_above a.0 b es (sorted_parts a (b ∷ es) sorted).0).0 in
    one-waits (is_running r a.0) (is_running r b.0) (latest_waiting r es) (Some (later a (latest_waiting r (b ∷ es)))) (Some (later b (latest_waiting r es)))
    (λ x y. one-runs r a.0 b.0 x y rises) refl refl

-- the entry that is found among others is found with one more in front
found-behind : (b : Bool) (e : Entry) (o : Option Entry) → is_some o ≡ true → is_some (cond b (Some e) o) ≡ true
found-behind true e o h = refl
found-behind false e o h = h

found-first : (a : ℕ × Entry) (es : List (ℕ × Entry)) → is_some (find nat_cmp a.0 (a ∷ es)) ≡ true
found-first a es =
    ap (λ (b : Bool). is_some (cond b (Some a.1) (find nat_cmp a.0 es))) (unsigned_tied a.0 a.0 ∙ itself a.0)

found-later : (a b w : ℕ × Entry) (es : List (ℕ × Entry)) (c : Bool) → is_some (find nat_cmp b.0 es) ≡ true → cond c b a ≡ w → is_some (find nat_cmp w.0 (a ∷ es)) ≡ true
found-later a b w es true h e =
    ap (λ (x : ℕ × Entry). is_some (find nat_cmp x.0 (a ∷ es))) (sym e) ∙ found-behind (eq_by_cmp nat_cmp b.0 a.0) a.1 (find nat_cmp b.0 es) h
found-later a b w es false h e = ap (λ (x : ℕ × Entry). is_some (find nat_cmp x.0 (a ∷ es))) (sym e) ∙ found-first a es

found-of : (a w : ℕ × Entry) (es : List (ℕ × Entry)) (o : Option (ℕ × Entry)) → ((b : ℕ × Entry) → o ≡ Some b → is_some (find nat_cmp b.0 es) ≡ true) → later a o ≡ w
    → is_some (find nat_cmp w.0 (a ∷ es)) ≡ true
found-of a w es None rest e = ap (λ (x : ℕ × Entry). is_some (find nat_cmp x.0 (a ∷ es))) (sym e) ∙ found-first a es
found-of a w es (Some b) rest e = found-later a b w es (is_before a b) (rest b refl) e

found-by : (a w : ℕ × Entry) (es : List (ℕ × Entry)) (o : Option (ℕ × Entry)) (c : Bool) → ((b : ℕ × Entry) → o ≡ Some b → is_some (find nat_cmp b.0 es) ≡ true)
    → cond c o (Some (later a o)) ≡ Some w → is_some (find nat_cmp w.0 (a ∷ es)) ≡ true
found-by a w es o true rest e = found-behind (eq_by_cmp nat_cmp w.0 a.0) a.1 (find nat_cmp w.0 es) (rest w e)
found-by a w es o false rest e = let last : later a o ≡ w = cc in found-of a w es o rest last

-- the latest that waits is one of the entries
found : (r : Option ℕ) (es : List (ℕ × Entry)) (w : ℕ × Entry) → latest_waiting r es ≡ Some w → is_some (find nat_cmp w.0 es) ≡ true
found r [] w e = cc
found r (a ∷ es) w e = found-by a w es (latest_waiting r es) (is_running r a.0) (λ b f. found r es b f) e

mapped-some : {X Y : Type 0} (f : X → Y) (o : Option X) → is_some o ≡ true → is_some (option_map f o) ≡ true
mapped-some f None some = cc
mapped-some f (Some x) some = refl

offers-by : (q : State) (o : Option (ℕ × Entry)) → ((w : ℕ × Entry) → o ≡ Some w → is_some (get q.runnable w.0) ≡ true) → is_some o ≡ true
    → is_some (option_and_then (carried q) (option_map (λ (a : ℕ × Entry). a.0) o)) ≡ true
offers-by q None here some = cc
offers-by q (Some w) here some = mapped-some (λ (e : Entry). leaving w.0 (kept_lag q e) e) (get q.runnable w.0) (here w refl)

-- where two tasks are runnable, one is offered
offers : (q : State) → 1 < len q.runnable → is_some (offer q) ≡ true
offers q many =
    offers-by q (latest_waiting q.running (entries q.runnable))
    (λ w e. ap is_some (get-entries q.runnable w.0) ∙ found q.running (entries q.runnable) w e)
    (of-two q.running (entries q.runnable) (entries_sorted q.runnable) (subst (λ (n : ℕ). 1 < n) (len-entries q.runnable) many))

no-lighter : (a w b : ℕ) → b ≤ a → nat_lt (a + w) b ≡ false
no-lighter a w b h = grind (arith, nat_tests)

balanced-by : (q : State) (load : ℕ) (o : Option Contents) → is_some o ≡ true → load ≤ load_of q → decision q load o ≡ Err Balanced
balanced-by q load None some h = cc
balanced-by q load (Some p) some h =
    ap (λ (b : Bool). cond b (cond (can_place q (sleeper_of p)) (Ok p) (Err Range)) (Err Balanced)) (no-lighter (load_of q) (weight_of p.nice) load h)

pub surely_balanced : (q s : State) → 1 < len s.runnable → load_of s ≤ load_of q → decision q (load_of s) (offer s) ≡ Err Balanced
surely_balanced q s many h = balanced-by q (load_of s) (offer s) (offers s many) h
