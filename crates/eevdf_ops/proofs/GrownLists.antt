-- A list that grows by one element at a time.
use Rattle.std.proofs.Common.{◌≡◌, ℕ, ◌+◌, ◌<◌, ◌++◌, List, [], ◌∷◌, length, get_or, map, set, take, replicate, sym, ap, ◌∙◌}
use Rattle.std.proofs.Math.Seq.{set-append_seam}
use Rattle.std.proofs.lemmas.List.{length-map, length-replicate, map-append, replicate-append-replicate, take_more}

-- what is seen of the list with one element more
pub seen_more : {X Y : Type 0} (f : X → Y) (xs items : List X) (x : X) (y : Y) (ys : List Y) → items ≡ xs ++ x ∷ [] → f x ≡ y → map f xs ≡ ys → map f items ≡ ys ++ y ∷ []
seen_more f xs items x y ys new at e =
    ap (λ (l : List _). map f l) new ∙ map-append f xs (x ∷ []) ∙ ap (λ (l : List _). l ++ f x ∷ []) e ∙ ap (λ (z : _). ys ++ z ∷ []) at

-- the same where that element was changed where it stands
pub seen_changed : {X Y : Type 0} (f : X → Y) (xs items changed : List X) (x z : X) (n : ℕ) (y : Y) (ys : List Y) → items ≡ xs ++ x ∷ [] → length xs ≡ n → changed ≡ set items n z → f z ≡ y
    → map f xs ≡ ys → map f changed ≡ ys ++ y ∷ []
seen_changed f xs items changed x z n y ys new count is at e =
    seen_more f xs changed z y ys
    (is ∙ ap (λ (l : List _). set l n z) new ∙ ap (λ (k : ℕ). set (xs ++ x ∷ []) k z) (sym count) ∙ set-append_seam xs x [] z) at e

-- where all are seen alike
pub alike_more : {X Y : Type 0} (f : X → Y) (xs items : List X) (x : X) (n : ℕ) (y : Y) → items ≡ xs ++ x ∷ [] → f x ≡ y → map f xs ≡ replicate n y → map f items ≡ replicate (n + 1) y
alike_more f xs items x n y new at e = seen_more f xs items x y (replicate n y) new at e ∙ replicate-append-replicate n 1 y

pub length_alike : {X Y : Type 0} (f : X → Y) (xs : List X) (n : ℕ) (y : Y) → map f xs ≡ replicate n y → length xs ≡ n
length_alike f xs n y e = sym (length-map xs f) ∙ ap (λ (l : List _). length l) e ∙ length-replicate n y

-- where they are seen as the first ones of another list
pub copied_more : {X Z Y : Type 0} (f : X → Y) (g : Z → Y) (xs items : List X) (x : X) (zs : List Z) (i : ℕ) (z : Z) → i < length zs → z ≡ get_or zs i z → items ≡ xs ++ x ∷ [] → f x ≡ g z
    → map f xs ≡ map g (take i zs) → map f items ≡ map g (take (i + 1) zs)
copied_more f g xs items x zs i z h is new at e =
    seen_more f xs items x (g z) (map g (take i zs)) new at e ∙ ap (λ (y : _). map g (take i zs) ++ g y ∷ []) is
    ∙ sym (map-append g (take i zs) (get_or zs i z ∷ [])) ∙ ap (λ (l : List _). map g l) (sym (take_more zs i z h))
