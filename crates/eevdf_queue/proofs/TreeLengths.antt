-- How many tasks a node has, by what stands on its two sides.
use Rattle.std.proofs.Common.{◌≡◌, ℕ, suc, ◌+◌, ◌<◌, ◌≤◌, List, [], ◌∷◌, ◌++◌, length, length-append, append_assoc, true, false, Some, cond, eqb, Bool, refl, sym, ap, ◌∙◌, arith}
use Rattle.std.specs.Prelude.{is_some}
use Rattle.eevdf_queue.specs.{declared.task.Task.Task, TaskLists.find_task, TreeTasks.without, TreeTasks.precedes, TreeTasks.insert_task}

-- the tasks of a node, and the sides of it
longer : (ts xs : List Task) (u : Task) (ys : List Task) → ts ≡ xs ++ u ∷ ys → length ts ≡ length xs + suc (length ys)
longer ts xs u ys e = ap (λ (z : List Task). length z) e ∙ length-append xs (u ∷ ys)

pub left_shorter : (ts xs : List Task) (u : Task) (ys : List Task) → ts ≡ xs ++ u ∷ ys → length xs < length ts
left_shorter ts xs u ys e = let n = longer ts xs u ys e in omega arith

pub right_shorter : (ts xs : List Task) (u : Task) (ys : List Task) → ts ≡ xs ++ u ∷ ys → length ys < length ts
right_shorter ts xs u ys e = let n = longer ts xs u ys e in omega arith

-- where one side is a task shorter than it was, both together have few
pub few_left : (most : ℕ) (ts xs : List Task) (u : Task) (ys ws : List Task) → ts ≡ xs ++ u ∷ ys → length ts ≤ most → length xs ≡ suc (length ws) → length ws + length ys ≤ most
few_left most ts xs u ys ws e h k = let n = longer ts xs u ys e in omega arith

pub few_right : (most : ℕ) (ts xs : List Task) (u : Task) (ys ws : List Task) → ts ≡ xs ++ u ∷ ys → length ts ≤ most → length ys ≡ suc (length ws) → length xs + length ws ≤ most
few_right most ts xs u ys ws e h k = let n = longer ts xs u ys e in omega arith

-- the last task taken from the right side
pub last_taken : (ts xs : List Task) (u : Task) (ys ws : List Task) (t : Task) (rs : List Task) → ts ≡ xs ++ u ∷ ys → ys ≡ ws ++ t ∷ [] → rs ≡ xs ++ u ∷ ws → ts ≡ rs ++ t ∷ []
last_taken ts xs u ys ws t rs e k j =
    e ∙ ap (λ (z : List Task). xs ++ u ∷ z) k ∙ sym (append_assoc xs (u ∷ ws) (t ∷ [])) ∙ ap (λ (z : List Task). z ++ t ∷ []) (sym j)

-- a list and what is left of it without its last task
pub one_fewer : (ts rs : List Task) (t : Task) → ts ≡ rs ++ t ∷ [] → length ts ≡ suc (length rs)
one_fewer ts rs t e = let n = longer ts rs t [] e in omega arith

-- a list in which a number stands, and the same without it
number_first : (q : ℕ) (t : Task) (ts : List Task) (b : Bool) → (is_some (find_task q ts) ≡ true → length ts ≡ suc (length (without q ts))) → is_some (cond b (Some t) (find_task q ts)) ≡ true
    → length (t ∷ ts) ≡ suc (length (cond b ts (t ∷ without q ts)))
number_first q t ts true h s = refl
number_first q t ts false h s = ap (λ (n : ℕ). suc n) (h s)

one_without : (q : ℕ) (ts : List Task) → is_some (find_task q ts) ≡ true → length ts ≡ suc (length (without q ts))
one_without q [] s = cc
one_without q (t ∷ ts) s = number_first q t ts (eqb t.number q) (one_without q ts) s

pub fewer_without : (q : ℕ) (ts rs : List Task) → is_some (find_task q ts) ≡ true → rs ≡ without q ts → length ts ≡ suc (length rs)
fewer_without q ts rs s e = one_without q ts s ∙ ap (λ (z : List Task). suc (length z)) (sym e)

-- a list with a task put in
inserted_first : (t u : Task) (us : List Task) (b : Bool) → length (insert_task t us) ≡ suc (length us) → length (cond b (t ∷ u ∷ us) (u ∷ insert_task t us)) ≡ suc (length (u ∷ us))
inserted_first t u us true h = refl
inserted_first t u us false h = ap (λ (n : ℕ). suc n) h

one_inserted : (t : Task) (ts : List Task) → length (insert_task t ts) ≡ suc (length ts)
one_inserted t [] = refl
one_inserted t (u ∷ us) = inserted_first t u us (precedes t u) (one_inserted t us)

pub more_inserted : (t : Task) (ts rs : List Task) → rs ≡ insert_task t ts → length rs ≡ suc (length ts)
more_inserted t ts rs e = ap (λ (z : List Task). length z) e ∙ one_inserted t ts

pub few_inserted : (most : ℕ) (t : Task) (ts xs : List Task) (u : Task) (ys : List Task) → xs ++ u ∷ ys ≡ insert_task t ts → length ts < most → length xs + length ys ≤ most
few_inserted most t ts xs u ys e h =
    let n = more_inserted t ts _ e in
    let m = length-append xs (u ∷ ys) in
    omega arith
