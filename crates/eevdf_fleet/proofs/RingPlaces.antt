-- Elements of lists by their places.
use Rattle.std.proofs.Common.{◌≡◌, ◌≢◌, ℕ, zero, suc, ◌<◌, List, [], ◌∷◌, ◌++◌, length, map, get_or, set, refl, sym, ap, subst, ◌∙◌, arith}
use Rattle.std.specs.Prelude.{slice_get, Option, Some, None, OnErr, OnOk, Result, Ok, Err}
use Rattle.std.specs.Option.{IfNone}
use Rattle.std.proofs.lemmas.Option.{get_or_from_slice_get}
use Rattle.eevdf_fleet.specs.RingEnds.{Each}

pub got-set_other : {A : Type 0} (xs : List A) (k j : ℕ) (y : A) → j ≢ k → slice_get (set xs k y) j ≡ slice_get xs j
got-set_other [] k j y other = refl
got-set_other (z ∷ xs) zero zero y other = absurd (other refl)
got-set_other (z ∷ xs) zero (suc j) y other = refl
got-set_other (z ∷ xs) (suc k) zero y other = refl
got-set_other (z ∷ xs) (suc k) (suc j) y other = got-set_other xs k j y (λ e. other (ap suc e))

-- an element that changes at a place where it belongs after the change
pub each-set : {A : Type 0} (Belongs : ℕ → A → Type 0) (xs : List A) (k : ℕ) (y : A) → ((x : A) → slice_get xs k ≡ Some x → Belongs k y) → Each Belongs xs → Each Belongs (set xs k y)
each-set Belongs [] k y here h j x e = absurd (cc)
each-set Belongs (z ∷ xs) zero y here h zero x e = let same : y ≡ x = cc in subst (λ (a : _). Belongs 0 a) same (here z refl)
each-set Belongs (z ∷ xs) zero y here h (suc j) x e = h (suc j) x e
each-set Belongs (z ∷ xs) (suc k) y here h zero x e = h 0 x e
each-set Belongs (z ∷ xs) (suc k) y here h (suc j) x e = each-set (λ i. Belongs (suc i)) xs k y here (λ i. h (suc i)) j x e

-- an element that was read is the one at its place
pub got-read : {A : Type 0} (xs : List A) (k : ℕ) (e x : A) → e ≡ get_or xs k e → slice_get xs k ≡ Some x → slice_get xs k ≡ Some e
got-read xs k e x at got = got ∙ ap Some (sym (at ∙ get_or_from_slice_get xs k x e got))

-- what follows where there is no value
pub IfNone_then : {X : Type 0} (r : Option X) {P Q : Type 0} → IfNone r P → (P → Q) → IfNone r Q
IfNone_then None h f = f h
IfNone_then (Some x) h f = tt

-- what follows from two facts of an answer
pub ok_both : {T E : Type 0} (r : Result T E) {P Q R : Type 0} → OnOk r P → OnOk r Q → (P → Q → R) → OnOk r R
ok_both (Ok x) p q f = f p q
ok_both (Err e) p q f = tt

pub err_both : {T E : Type 0} (r : Result T E) {P Q R : Type 0} → OnErr r P → OnErr r Q → (P → Q → R) → OnErr r R
err_both (Ok x) p q f = tt
err_both (Err e) p q f = f p q

pub got_some : {A : Type 0} (xs : List A) (k : ℕ) → k < length xs → (x : A) × (slice_get xs k ≡ Some x)
got_some [] k within = absurd (omega arith)
got_some (x ∷ xs) zero within = (x, refl)
got_some (x ∷ xs) (suc k) within = got_some xs k (omega arith)

-- each element of a list with one more at its end
pub each-push : {A : Type 0} (Belongs : ℕ → A → Type 0) (xs : List A) (y : A) → ((k : ℕ) (x : A) → k < length xs → slice_get xs k ≡ Some x → Belongs k x) → Belongs (length xs) y
    → Each Belongs (xs ++ y ∷ [])
each-push Belongs [] y old new zero x e = let same : y ≡ x = cc in subst (λ (a : _). Belongs 0 a) same new
each-push Belongs [] y old new (suc k) x e = absurd (cc)
each-push Belongs (z ∷ xs) y old new zero x e = old 0 x (omega arith) e
each-push Belongs (z ∷ xs) y old new (suc k) x e = each-push (λ j. Belongs (suc j)) xs y (λ j a within got. old (suc j) a (omega arith) got) new k x e

got-mapped : {A B : Type 0} (f : A → B) (xs : List A) (k : ℕ) (d : A) → get_or (map f xs) k (f d) ≡ f (get_or xs k d)
got-mapped f [] k d = refl
got-mapped f (x ∷ xs) zero d = refl
got-mapped f (x ∷ xs) (suc k) d = got-mapped f xs k d

-- what is seen of an element that was read
pub read-given : {A B : Type 0} (f : A → B) (xs : List A) (k : ℕ) (x : A) → x ≡ get_or xs k x → f x ≡ get_or (map f xs) k (f x)
read-given f xs k x at = ap f at ∙ sym (got-mapped f xs k x)
