-- Elements of lists by their places.
use Rattle.std.proofs.Common.{◌≡◌, ℕ, zero, suc, ◌+◌, ◌<◌, ◌≤◌, Bool, true, List, [], ◌∷◌, ◌++◌, length, drop, get_or, ap, arith, refl}
use Rattle.std.proofs.lemmas.Bool.{and_parts}
use Rattle.std.specs.List.{list_all}
use Rattle.std.specs.Prelude.{slice_get, Some, None}

pub get_left : {A : Type 0} (xs ys : List A) (k : ℕ) → k < length xs → slice_get (xs ++ ys) k ≡ slice_get xs k
get_left [] ys k h = absurd (omega arith)
get_left (x ∷ xs) ys zero h = refl
get_left (x ∷ xs) ys (suc k) h = get_left xs ys k (omega arith)

pub get_right : {A : Type 0} (xs ys : List A) (k : ℕ) → slice_get (xs ++ ys) (length xs + k) ≡ slice_get ys k
get_right [] ys k = ap (λ (i : ℕ). slice_get ys i) (let e : 0 + k ≡ k = omega arith in e)
get_right (x ∷ xs) ys k = grind (arith, get_right xs ys k)

pub all_at : {A : Type 0} (test : A → Bool) (xs : List A) (k : ℕ) (d : A) → list_all test xs ≡ true → k < length xs → test (get_or xs k d) ≡ true
all_at test [] k d all h = absurd (omega arith)
all_at test (x ∷ xs) zero d all h = (and_parts (test x) (list_all test xs) all).0
all_at test (x ∷ xs) (suc k) d all h = all_at test xs k d (and_parts (test x) (list_all test xs) all).1 (omega arith)

pub got_past : {A : Type 0} (xs : List A) (k : ℕ) → slice_get xs k ≡ None → length xs ≤ k
got_past [] k h = omega arith
got_past (x ∷ xs) zero h = cc
got_past (x ∷ xs) (suc k) h = let rest : length xs ≤ k = got_past xs k h in omega arith

pub drop_next : {A : Type 0} (xs : List A) (k : ℕ) (x : A) → slice_get xs k ≡ Some x → drop k xs ≡ x ∷ drop (suc k) xs
drop_next [] k x e = cc
drop_next (y ∷ xs) zero x e = let same : y ≡ x = cc in ap (λ z. z ∷ xs) same
drop_next (y ∷ xs) (suc k) x e = drop_next xs k x e
