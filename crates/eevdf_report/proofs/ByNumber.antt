-- A text that goes over the numbers in turn.
use Rattle.std.proofs.Common.{◌≡◌, ℕ, zero, suc, ◌+◌, List, [], ◌∷◌, ◌++◌, sym, ap, ◌∙◌, add-zero, zero-add, add-one, arith}
use Rattle.std.specs.List.{flat_map, range_with_len}
use Rattle.std.proofs.lemmas.List.{flat_map_more}

range-more : (a n : ℕ) → range_with_len a (suc n) ≡ range_with_len a n ++ (a + n) ∷ []
range-more a zero = ap (λ (k : ℕ). k ∷ []) (sym (add-zero a))
range-more a (suc n) =
    ap (λ (ks : List ℕ). a ∷ ks) (range-more (a + 1) n ∙ ap (λ (k : ℕ). range_with_len (a + 1) n ++ k ∷ []) (omega arith))

-- it goes on by one
pub text_more : (f : ℕ → List ℕ) (n : ℕ) (old was now : List ℕ) → was ≡ old ++ flat_map f (range_with_len 0 n) → now ≡ was ++ f n → now ≡ old ++ flat_map f (range_with_len 0 (n + 1))
text_more f n old was now h e =
    e ∙ ap (λ (t : List ℕ). t ++ f n) h
    ∙ flat_map_more f old (range_with_len 0 n) n
    ∙ ap (λ (ks : List ℕ). old ++ flat_map f ks)
    (ap (λ (k : ℕ). range_with_len 0 n ++ k ∷ []) (sym (zero-add n)) ∙ sym (range-more 0 n) ∙ ap (range_with_len 0) (sym (add-one n)))
