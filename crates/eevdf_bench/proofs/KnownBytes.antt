-- One write or read after another, where the bytes are known.
use Rattle.std.proofs.Common.{◌≡◌, ℕ, ◌+◌, ◌-◌, ◌≤◌, List, ◌++◌, length, take, drop, refl, sym, ap, ◌∙◌, subst, append_assoc, append-nil, arith}
use Rattle.std.specs.Prelude.{Option, Some, None, IfSome}
use Rattle.std.specs.Io.KnownBytes.{Appends, Consumes, IsAtEnd}
use Rattle.eevdf_bench.specs.Streams.{ReadsOn, ReadsTo, ReadsWithin}
use Rattle.std.proofs.Math.Seq.{take-add, take-append_seam}
use Rattle.std.proofs.lemmas.List.{take_all, length-drop, length-append}

pub appends_both : (a b c : Option (List ℕ)) (xs ys : List ℕ) → Appends a b xs → Appends b c ys → Appends a c (xs ++ ys)
appends_both None b c xs ys p q = tt
appends_both (Some u) None c xs ys p q = absurd p
appends_both (Some u) (Some v) None xs ys p q = absurd q
appends_both (Some u) (Some v) (Some w) xs ys p q = q ∙ ap (λ z. z ++ ys) p ∙ append_assoc u xs ys

rest_is : (text : List ℕ) (m : ℕ) → take (length text - m) (drop m text) ≡ drop m text
rest_is text m = take_all (length text - m) (drop m text) (omega (arith, length-drop m text))

-- the front of a text, and then the front of the rest
pub appends_front : (a b c : Option (List ℕ)) (text : List ℕ) (m n : ℕ) → Appends a b (take m text) → Appends b c (take n (take (length text - m) (drop m text))) → Appends a c (take (m + n) text)
appends_front a b c text m n p q =
    let then_ : Appends b c (take n (drop m text)) = subst (λ (xs : List ℕ). Appends b c (take n xs)) (rest_is text m) q in
    subst (λ (xs : List ℕ). Appends a c xs) (sym (take-add m n text)) (appends_both a b c (take m text) (take n (drop m text)) p then_)

pub consumes_both : (a b c : Option (List ℕ)) (xs ys : List ℕ) → Consumes a b xs → Consumes b c ys → Consumes a c (xs ++ ys)
consumes_both None b c xs ys p q = tt
consumes_both (Some u) None c xs ys p q = absurd p
consumes_both (Some u) (Some v) None xs ys p q = absurd q
consumes_both (Some u) (Some v) (Some w) xs ys p q = p ∙ ap (λ z. xs ++ z) q ∙ sym (append_assoc xs ys w)

-- what was read is the front of what there was, up to a limit
abbrev pub IsReadUpTo : ℕ → Option (List ℕ) → Option (List ℕ) → List ℕ → Type 0
IsReadUpTo limit a b input = IfSome a (λ all. input ≡ take limit all) × ReadsTo limit a b

up_to : (a b : Option (List ℕ)) (input : List ℕ) (limit : ℕ) → Consumes a b input → ((u v : List ℕ) → u ≡ input ++ v → b ≡ Some v → input ≡ take limit u) → IsReadUpTo limit a b input
up_to None b input limit p front = (tt, tt)
up_to (Some u) None input limit p front = absurd p
up_to (Some u) (Some v) input limit p front =
    let same : input ≡ take limit u = front u v p refl in
    (same, subst (λ (xs : List ℕ). u ≡ xs ++ v) same p)

-- as much as the limit
pub read_front : (a b : Option (List ℕ)) (input : List ℕ) (limit : ℕ) → Consumes a b input → length input ≡ limit → IsReadUpTo limit a b input
read_front a b input limit p h =
    up_to a b input limit p
    (λ u v is to.
    sym (take-append_seam input v) ∙ ap (take (length input)) (sym is) ∙ ap (λ (n : ℕ). take n u) h)

-- all there is, where the last read gave nothing
pub read_end : (a b c : Option (List ℕ)) (input input' : List ℕ) (n limit : ℕ) → Consumes a b input → ReadsOn b c input input' n → n ≡ 0 → length input' ≤ limit → IsReadUpTo limit a c input'
read_end a b c input input' n limit p r e h =
    let consumed : Consumes a c input' = subst (λ (xs : List ℕ). Consumes a c xs) (sym r.grows) (consumes_both a b c input r.piece p r.consumes) in
    up_to a c input' limit consumed
    (λ u v is to.
    let all : u ≡ input' = is ∙ ap (λ z. input' ++ z) (subst IsAtEnd to (r.ends e)) ∙ append-nil input' in
    sym (take_all limit input' h) ∙ ap (take limit) (sym all))

-- one reading within what the one before left of the limit
pub within_both : (a b c : Option (List ℕ)) (input : List ℕ) (room limit : ℕ) → Consumes a b input → ReadsWithin room b c → length input + room ≤ limit → ReadsWithin limit a c
within_both a b c input room limit p r h = record {
  piece = input ++ r.piece;
  within = omega (arith, h, r.within, length-append input r.piece);
  consumes = consumes_both a b c input r.piece p r.consumes;
}
