-- The order of tasks by key, and lists whose keys rise.
use Rattle.std.proofs.Common.{◌≡◌, append_assoc, true, false, cond, List, [], ◌∷◌, ◌++◌, Option, Some, None, Box, refl, sym, subst, ap, ◌∙◌, arith}
use Rattle.std.specs.{Prelude.is_some, List.AllByRecursion}
use Rattle.std.proofs.lemmas.Int.{ints}
use Rattle.eevdf_queue.specs.{TreeShape.Tree, TreeShape.tasks_in, declared.task.Task.Task}
use Rattle.eevdf_queue.specs.TreeTasks.{precedes, PrecedesAll, AreOrdered, insert_task}
use Rattle.eevdf_queue.proofs.{AllTasks.all-left, AllTasks.all-right, Earliest.told}

pub precedes-trans : (a b c : Task) → precedes a b ≡ true → precedes b c ≡ true → precedes a c ≡ true
precedes-trans a b c p q =
    grind (arith, ints, told a.entry.d b.entry.d a.number b.number, told b.entry.d c.entry.d b.number c.number, told a.entry.d c.entry.d a.number c.number)

pub not_earlier : (t x u : Task) → precedes x u ≡ true → precedes t u ≡ false → precedes t x ≡ false
not_earlier t x u p q =
    grind (arith, ints, told x.entry.d u.entry.d x.number u.number, told t.entry.d u.entry.d t.number u.number, told t.entry.d x.entry.d t.number x.number)

-- each of some tasks precedes one
abbrev pub AllPrecede : List Task → Task → Type 0
AllPrecede xs u = AllByRecursion (λ x. precedes x u ≡ true) xs

pub left_ordered : (xs : List Task) (u : Task) (ys : List Task) → AreOrdered (xs ++ u ∷ ys) → AreOrdered xs
left_ordered [] u ys h = tt
left_ordered (x ∷ xs) u ys h = (all-left (λ z. precedes x z ≡ true) xs (u ∷ ys) h.0, left_ordered xs u ys h.1)

pub right_ordered : (xs : List Task) (u : Task) (ys : List Task) → AreOrdered (xs ++ u ∷ ys) → AreOrdered ys
right_ordered [] u ys h = h.1
right_ordered (x ∷ xs) u ys h = right_ordered xs u ys h.1

pub left_precede : (xs : List Task) (u : Task) (ys : List Task) → AreOrdered (xs ++ u ∷ ys) → AllPrecede xs u
left_precede [] u ys h = tt
left_precede (x ∷ xs) u ys h = ((all-right (λ z. precedes x z ≡ true) xs (u ∷ ys) h.0).0, left_precede xs u ys h.1)

pub right_follow : (xs : List Task) (u : Task) (ys : List Task) → AreOrdered (xs ++ u ∷ ys) → PrecedesAll u ys
right_follow [] u ys h = h.0
right_follow (x ∷ xs) u ys h = right_follow xs u ys h.1

pub insert-left : (t : Task) (xs : List Task) (u : Task) (ys : List Task) → precedes t u ≡ true → insert_task t (xs ++ u ∷ ys) ≡ insert_task t xs ++ u ∷ ys
insert-left t [] u ys h = ap (λ b. cond b (t ∷ u ∷ ys) (u ∷ insert_task t ys)) h
insert-left t (x ∷ xs) u ys h = grind (arith, insert-left t xs u ys h)

pub insert-right : (t : Task) (xs : List Task) (u : Task) (ys : List Task) → precedes t u ≡ false → AreOrdered (xs ++ u ∷ ys)
    → insert_task t (xs ++ u ∷ ys) ≡ xs ++ u ∷ insert_task t ys
insert-right t [] u ys h o = ap (λ b. cond b (t ∷ u ∷ ys) (u ∷ insert_task t ys)) h
insert-right t (x ∷ xs) u ys h o =
    grind (arith, not_earlier t x u (all-right (λ z. precedes x z ≡ true) xs (u ∷ ys) o.0).0 h, insert-right t xs u ys h o.1)

pub ordered_left : (ts xs : List Task) (u : Task) (ys : List Task) → ts ≡ xs ++ u ∷ ys → AreOrdered ts → AreOrdered xs
ordered_left ts xs u ys e h = left_ordered xs u ys (subst AreOrdered e h)

pub ordered_right : (ts xs : List Task) (u : Task) (ys : List Task) → ts ≡ xs ++ u ∷ ys → AreOrdered ts → AreOrdered ys
ordered_right ts xs u ys e h = right_ordered xs u ys (subst AreOrdered e h)

-- what stands around a task after an insertion on either side
pub inserted_left : (t : Task) (ts xs : List Task) (u : Task) (ys ws rs : List Task) → ts ≡ xs ++ u ∷ ys → precedes t u ≡ true
    → ws ≡ insert_task t xs → rs ≡ ws ++ u ∷ ys → rs ≡ insert_task t ts
inserted_left t ts xs u ys ws rs e p i j =
    j ∙ ap (λ (z : List Task). z ++ u ∷ ys) i ∙ sym (insert-left t xs u ys p) ∙ ap (insert_task t) (sym e)

pub inserted_right : (t : Task) (ts xs : List Task) (u : Task) (ys ws rs : List Task) → ts ≡ xs ++ u ∷ ys → precedes t u ≡ false → AreOrdered ts
    → ws ≡ insert_task t ys → rs ≡ xs ++ u ∷ ws → rs ≡ insert_task t ts
inserted_right t ts xs u ys ws rs e p h i j =
    j ∙ ap (λ (z : List Task). xs ++ u ∷ z) i ∙ sym (insert-right t xs u ys p (subst AreOrdered e h)) ∙ ap (insert_task t) (sym e)

-- no task stands below an empty link
pub none_below : {Z : Type 0} (l : Option (Box Tree Z)) → is_some l ≡ false → tasks_in l ≡ []
none_below None h = refl
none_below (Some b) h = cc

-- the last of the left side between the two
pub last_moved : (xs ws : List Task) (t : Task) (ys : List Task) → xs ≡ ws ++ t ∷ [] → ws ++ t ∷ ys ≡ xs ++ ys
last_moved xs ws t ys e = sym (ap (λ (z : List Task). z ++ ys) e ∙ append_assoc ws (t ∷ []) ys)
