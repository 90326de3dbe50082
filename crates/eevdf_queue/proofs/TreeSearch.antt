-- What is found in a list of tasks from what stands on either side of one.
use Rattle.std.proofs.Common.{◌≡◌, ℕ, Bool, true, false, cond, eqb, List, [], ◌∷◌, ◌++◌, Option, Some, None, refl, sym, subst, ap, ◌∙◌, arith}
use Rattle.std.specs.Prelude.{is_some, nat_lt, int_lt, ◌&&◌, ◌||◌, not}
use Rattle.std.proofs.{lemmas.Int.ints, lemmas.Bool.eqb-true, lemmas.Bool.Decides.nat_tests}
use Rattle.eevdf_queue.specs.{declared.entry.Entry.Entry, declared.task.Task.Task, declared.tree.key.TreeKey.TreeKey}
use Rattle.eevdf_queue.specs.TaskLists.{first_with, has_number, find_task}
use Rattle.eevdf_queue.specs.TreeKeys.{is_of, is_under}
use Rattle.eevdf_queue.specs.TreeTasks.{precedes, AreOrdered, first_that, IsAtDeadline}
use Rattle.eevdf_queue.proofs.{AllTasks.all-found, Earliest.told}
use Rattle.eevdf_queue.proofs.TreeOrder.{left_precede, right_follow}

module _ (test : Task → Bool) where
  pub first-found : (xs ys : List Task) (t : Task) → first_with test xs ≡ Some t → first_with test (xs ++ ys) ≡ Some t
  first-found [] ys t h = cc
  first-found (x ∷ xs) ys t h = grind (arith, first-found xs ys t)

  pub first-missed : (xs ys : List Task) → first_with test xs ≡ None → first_with test (xs ++ ys) ≡ first_with test ys
  first-missed [] ys h = refl
  first-missed (x ∷ xs) ys h = grind (arith, first-missed xs ys)

  first_passed : (xs : List Task) (t : Task) → first_with test xs ≡ Some t → test t ≡ true
  first_passed [] t h = cc
  first_passed (x ∷ xs) t h = grind (arith, first_passed xs t)

pub found_number : (q : ℕ) (xs : List Task) (t : Task) → find_task q xs ≡ Some t → t.number ≡ q
found_number q xs t h = eqb-true t.number q (first_passed (has_number q) xs t h)

-- the key comes after a task's
abbrev pub is_over : TreeKey → Task → Bool
is_over k t = int_lt t.entry.d k.deadline || (not (int_lt k.deadline t.entry.d) && nat_lt t.number k.number)

-- a task has the key
pub record HasKey (k : TreeKey) (t : Task) : Type 0 where
  pub deadline : t.entry.d ≡ k.deadline
  pub number : t.number ≡ k.number

not_after_under : (k : TreeKey) (t u : Task) → HasKey k t → is_under k u ≡ true → precedes u t ≡ true → ⊥
not_after_under k t u h p q =
    grind (arith, ints, h.deadline, h.number, told k.deadline u.entry.d k.number u.number, told u.entry.d t.entry.d u.number t.number)

not_before_over : (k : TreeKey) (t u : Task) → HasKey k t → is_over k u ≡ true → precedes t u ≡ true → ⊥
not_before_over k t u h p q =
    grind (arith, ints, h.deadline, h.number, told u.entry.d k.deadline u.number k.number, told t.entry.d u.entry.d t.number u.number)

not_itself : (k : TreeKey) (t u : Task) → HasKey k t → HasKey k u → precedes t u ≡ true → ⊥
not_itself k t u h g p = grind (arith, ints, h.deadline, h.number, g.deadline, g.number, told t.entry.d u.entry.d t.number u.number)

under_not_itself : (k : TreeKey) (u : Task) → HasKey k u → is_under k u ≡ true → ⊥
under_not_itself k u g p = grind (arith, ints, g.deadline, g.number, told k.deadline u.entry.d k.number u.number)

pub over_not_itself : (k : TreeKey) (u : Task) → HasKey k u → is_over k u ≡ true → ⊥
over_not_itself k u g p = grind (arith, ints, g.deadline, g.number, told u.entry.d k.deadline u.number k.number)

-- a key is under a task's, over it, or its own
pub own_not_under : (k : TreeKey) (u : Task) → is_of k u ≡ true → is_under k u ≡ false
own_not_under k u h = grind (arith, ints, nat_tests)

pub own_not_over : (k : TreeKey) (u : Task) → is_of k u ≡ true → is_over k u ≡ false
own_not_over k u h = grind (arith, ints, nat_tests)

pub over_else : (k : TreeKey) (u : Task) → is_of k u ≡ false → is_under k u ≡ false → is_over k u ≡ true
over_else k u h p = grind (arith, ints, nat_tests)

-- a key that is neither under nor over a task's is its own
pub own_key : (k : TreeKey) (u : Task) → is_under k u ≡ false → is_over k u ≡ false → HasKey k u
own_key k u p q = record {
  deadline = grind (arith, ints, told k.deadline u.entry.d k.number u.number, told u.entry.d k.deadline u.number k.number);
  number = grind (arith, ints, told k.deadline u.entry.d k.number u.number, told u.entry.d k.deadline u.number k.number);
}

pub of_key : (k : TreeKey) (u : Task) → is_of k u ≡ true → HasKey k u
of_key k u h = own_key k u (own_not_under k u h) (own_not_over k u h)

has_key : (k : TreeKey) (ts : List Task) (t : Task) → IsAtDeadline k.deadline (find_task k.number ts) → find_task k.number ts ≡ Some t → HasKey k t
has_key k ts t a h = record {
  deadline = subst (IsAtDeadline k.deadline) h a;
  number = found_number k.number ts t h;
}

-- where a key leads: the task of its number, if any, stands on that side
module _ (k : TreeKey) (xs : List Task) (u : Task) (ys : List Task) (o : AreOrdered (xs ++ u ∷ ys))
    (a : IsAtDeadline k.deadline (find_task k.number (xs ++ u ∷ ys))) where
  from_middle : (b : Bool) (t : Task) → eqb u.number k.number ≡ b → HasKey k t → cond b (Some u) (find_task k.number ys) ≡ Some t → is_under k u ≡ true → ⊥
  from_middle true t e h f p = let same : u ≡ t = cc in under_not_itself k u (subst (HasKey k) (sym same) h) p
  from_middle false t e h f p = not_after_under k t u h p (all-found (λ z. precedes u z ≡ true) (has_number k.number) ys t (right_follow xs u ys o) f)

  under_rest : (r : Option Task) → find_task k.number (u ∷ ys) ≡ r → find_task k.number xs ≡ None → is_under k u ≡ true → r ≡ None
  under_rest None e n p = refl
  under_rest (Some t) e n p =
      absurd (from_middle (eqb u.number k.number) t refl (has_key k (xs ++ u ∷ ys) t a (first-missed (has_number k.number) xs (u ∷ ys) n ∙ e)) e p)

  under_by : (r : Option Task) → find_task k.number xs ≡ r → is_under k u ≡ true → find_task k.number (xs ++ u ∷ ys) ≡ r
  under_by (Some t) e p = first-found (has_number k.number) xs (u ∷ ys) t e
  under_by None e p = first-missed (has_number k.number) xs (u ∷ ys) e ∙ under_rest (find_task k.number (u ∷ ys)) refl e p

  pub find-under : is_under k u ≡ true → find_task k.number (xs ++ u ∷ ys) ≡ find_task k.number xs
  find-under p = under_by (find_task k.number xs) refl p

  -- none on the left has the key, where one that had it couldn't stand there
  missed : ((t : Task) → HasKey k t → precedes t u ≡ true → ⊥) → find_task k.number xs ≡ None
  missed never =
      by (find_task k.number xs) refl
    where
      by : (r : Option Task) → find_task k.number xs ≡ r → r ≡ None
      by None e = refl
      by (Some t) e =
          absurd (never t (has_key k (xs ++ u ∷ ys) t a (first-found (has_number k.number) xs (u ∷ ys) t e))
          (all-found (λ z. precedes z u ≡ true) (has_number k.number) xs t (left_precede xs u ys o) e))

  pub missed-left : HasKey k u → find_task k.number xs ≡ None
  missed-left g = missed (λ t h. not_itself k t u h g)

  pub missed-left_over : is_over k u ≡ true → find_task k.number xs ≡ None
  missed-left_over p = missed (λ t h. not_before_over k t u h p)

  pub not_here : is_over k u ≡ true → eqb u.number k.number ≡ false
  not_here p =
      by (eqb u.number k.number) refl
    where
      by : (b : Bool) → eqb u.number k.number ≡ b → b ≡ false
      by false e = refl
      by true e =
          let found = first-missed (has_number k.number) xs (u ∷ ys) (missed-left_over p) ∙ ap (λ b. cond b (Some u) (find_task k.number ys)) e in
          absurd (over_not_itself k u (has_key k (xs ++ u ∷ ys) u a found) p)

  pub find-over : is_over k u ≡ true → find_task k.number (xs ++ u ∷ ys) ≡ find_task k.number ys
  find-over p =
      first-missed (has_number k.number) xs (u ∷ ys) (missed-left_over p) ∙ ap (λ b. cond b (Some u) (find_task k.number ys)) (not_here p)

  pub find-here : HasKey k u → find_task k.number (xs ++ u ∷ ys) ≡ Some u
  find-here g =
      let own : find_task k.number (u ∷ ys) ≡ Some u = grind (arith, nat_tests, g.number) in
      first-missed (has_number k.number) xs (u ∷ ys) (missed-left g) ∙ own

-- the same of a list that is known to be so parted
abbrev pub IsPlaced : TreeKey → List Task → Type 0
IsPlaced k ts = IsAtDeadline k.deadline (find_task k.number ts)

pub find_left : (k : TreeKey) (ts xs : List Task) (u : Task) (ys : List Task) → ts ≡ xs ++ u ∷ ys → AreOrdered ts → IsPlaced k ts → is_under k u ≡ true
    → find_task k.number ts ≡ find_task k.number xs
find_left k ts xs u ys e o a p = ap (find_task k.number) e ∙ find-under k xs u ys (subst AreOrdered e o) (subst (IsPlaced k) e a) p

pub find_right : (k : TreeKey) (ts xs : List Task) (u : Task) (ys : List Task) → ts ≡ xs ++ u ∷ ys → AreOrdered ts → IsPlaced k ts → is_over k u ≡ true
    → find_task k.number ts ≡ find_task k.number ys
find_right k ts xs u ys e o a p = ap (find_task k.number) e ∙ find-over k xs u ys (subst AreOrdered e o) (subst (IsPlaced k) e a) p

pub find_own : (k : TreeKey) (ts xs : List Task) (u : Task) (ys : List Task) → ts ≡ xs ++ u ∷ ys → AreOrdered ts → IsPlaced k ts
    → is_under k u ≡ false → is_over k u ≡ false → find_task k.number ts ≡ Some u
find_own k ts xs u ys e o a p q =
    ap (find_task k.number) e ∙ find-here k xs u ys (subst AreOrdered e o) (subst (IsPlaced k) e a) (own_key k u p q)

pub placed_on : (k : TreeKey) (ts xs : List Task) → find_task k.number ts ≡ find_task k.number xs → IsPlaced k ts → IsPlaced k xs
placed_on k ts xs e a = subst (IsAtDeadline k.deadline) e a

pub some_of : (o : Option Task) → is_some o ≡ true → (t : Task) × (o ≡ Some t)
some_of None h = cc
some_of (Some t) h = (t, refl)

pub none_from : (o : Option Task) → is_some o ≡ false → o ≡ None
none_from None h = refl
none_from (Some t) h = cc

-- the first that passes, left before right
pub first_left : (passes : Entry → Bool) (ts xs : List Task) (u : Task) (ys : List Task) (t : Task) → ts ≡ xs ++ u ∷ ys → first_that passes xs ≡ Some t
    → first_that passes ts ≡ Some t
first_left passes ts xs u ys t e h = ap (first_that passes) e ∙ first-found (λ t. passes t.entry) xs (u ∷ ys) t h

pub first_left_same : (passes : Entry → Bool) (ts xs : List Task) (u : Task) (ys : List Task) → ts ≡ xs ++ u ∷ ys → is_some (first_that passes xs) ≡ true
    → first_that passes ts ≡ first_that passes xs
first_left_same passes ts xs u ys e s =
    let f = some_of (first_that passes xs) s in first_left passes ts xs u ys f.0 e f.1 ∙ sym f.1

pub first_here : (passes : Entry → Bool) (ts xs : List Task) (u : Task) (ys : List Task) → ts ≡ xs ++ u ∷ ys → is_some (first_that passes xs) ≡ false
    → passes u.entry ≡ true → first_that passes ts ≡ Some u
first_here passes ts xs u ys e h p = grind (arith, e, p, first-missed (λ t. passes t.entry) xs (u ∷ ys) (none_from (first_that passes xs) h))

pub first_right : (passes : Entry → Bool) (ts xs : List Task) (u : Task) (ys : List Task) → ts ≡ xs ++ u ∷ ys → is_some (first_that passes xs) ≡ false
    → passes u.entry ≡ false → first_that passes ts ≡ first_that passes ys
first_right passes ts xs u ys e h p = grind (arith, e, p, first-missed (λ t. passes t.entry) xs (u ∷ ys) (none_from (first_that passes xs) h))

-- with nothing on either side that passes, it is the task itself, where there is one
pub first_only : (passes : Entry → Bool) (ts xs : List Task) (u : Task) (ys : List Task) → ts ≡ xs ++ u ∷ ys → is_some (first_that passes xs) ≡ false
    → ys ≡ [] → is_some (first_that passes ts) ≡ true → first_that passes ts ≡ Some u
first_only passes ts xs u ys e h n s =
    by (passes u.entry) refl
  where
    by : (b : Bool) → passes u.entry ≡ b → first_that passes ts ≡ Some u
    by true p = first_here passes ts xs u ys e h p
    by false p =
        let nobody : true ≡ false = sym s ∙ ap is_some (first_right passes ts xs u ys e h p ∙ ap (first_that passes) n) in
        cc
