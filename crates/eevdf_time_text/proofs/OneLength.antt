-- A text is one length of time at most, and one span at most.
use Rattle.std.proofs.Common.{◌≡◌, ◌≢◌, ℕ, suc, ◌*◌, ◌^◌, ◌<◌, ◌≤◌, inl, inr, List, [], ◌∷◌, ◌++◌, length, refl, sym, ap, subst, ◌∙◌, append_assoc, arith, length-append, cond}
use Rattle.std.specs.Prelude.{codes, ⊤, ◌==◌}
use Rattle.std.specs.Char.{digit_value}
use Rattle.std.specs.Str.Parse.{AllDigits, IsNumeral, digits_value}
use Rattle.std.specs.Str.Pattern.{LacksTextAt}
use Rattle.std.proofs.lemmas.List.{append_cancel_right}
use Rattle.eevdf_time_text.specs.Lengths.{IsLength, IsOnlyPart, IsParted, IsSpan}

-- ---- digits, and what stands behind them

same_head : (x y : ℕ) (xs ys : List ℕ) → x ∷ xs ≡ y ∷ ys → (x ≡ y) × (xs ≡ ys)
same_head x y xs ys e = grind arith

no_digit : (x y : ℕ) → digit_value x < 10 → 10 ≤ digit_value y → x ≡ y → ⊥
no_digit x y a b e = omega (arith, a, b, ap (λ (c : ℕ). digit_value c) e)

-- what stands behind a text's digits is where the first byte is that is none
behind_digits : (ds es us vs : List ℕ) (c d : ℕ) → AllDigits 10 ds → AllDigits 10 es → 10 ≤ digit_value c → 10 ≤ digit_value d
    → ds ++ (c ∷ us) ≡ es ++ (d ∷ vs) → (ds ≡ es) × (c ∷ us ≡ d ∷ vs)
behind_digits [] [] us vs c d a b hc hd e = (refl, e)
behind_digits [] (y ∷ es) us vs c d a b hc hd e = absurd (no_digit y c b.0 hc (sym (same_head _ _ _ _ e).0))
behind_digits (x ∷ ds) [] us vs c d a b hc hd e = absurd (no_digit x d a.0 hd (same_head _ _ _ _ e).0)
behind_digits (x ∷ ds) (y ∷ es) us vs c d a b hc hd e =
    let heads : (x ≡ y) × (ds ++ (c ∷ us) ≡ es ++ (d ∷ vs)) = same_head _ _ _ _ e in
    let rest : (ds ≡ es) × (c ∷ us ≡ d ∷ vs) = behind_digits ds es us vs c d a.1 b.1 hc hd heads.1 in
    (grind (arith, heads.0, rest.0), rest.1)

-- digits don't end with such a byte
digits_end : (front : List ℕ) (c : ℕ) → 10 ≤ digit_value c → AllDigits 10 (front ++ (c ∷ [])) → ⊥
digits_end [] c h a = omega (arith, h, a.0)
digits_end (x ∷ front) c h a = digits_end front c h a.1

-- ---- the units

no_end : (ys : List ℕ) (b : ℕ) → [] ≡ ys ++ (b ∷ []) → ⊥
no_end ys b e = omega (arith, ap (λ (xs : List ℕ). length xs) e, length-append ys (b ∷ []))

same_last : (xs ys : List ℕ) (a b : ℕ) → xs ++ (a ∷ []) ≡ ys ++ (b ∷ []) → (xs ≡ ys) × (a ≡ b)
same_last [] [] a b e = (refl, (same_head _ _ _ _ e).0)
same_last [] (y ∷ ys) a b e = absurd (no_end ys b (same_head _ _ _ _ e).1)
same_last (x ∷ xs) [] a b e = absurd (no_end xs a (sym (same_head _ _ _ _ e).1))
same_last (x ∷ xs) (y ∷ ys) a b e =
    let heads : (x ≡ y) × (xs ++ (a ∷ []) ≡ ys ++ (b ∷ [])) = same_head _ _ _ _ e in
    let rest : (xs ≡ ys) × (a ≡ b) = same_last xs ys a b heads.1 in
    (grind (arith, heads.0, rest.0), rest.1)

-- a unit of two letters, and one of the last of them alone
two_units : (text p front : List ℕ) (u v : ℕ) → text ≡ p ++ (u ∷ 115 ∷ []) → text ≡ front ++ (v ∷ 115 ∷ []) → (front ≡ p) × (v ≡ u)
two_units text p front u v e f =
    same_last front p v u
    (append_cancel_right (front ++ (v ∷ [])) (p ++ (u ∷ [])) (115 ∷ []) (append_assoc front (v ∷ []) (115 ∷ []) ∙ sym f ∙ e ∙ sym (append_assoc p (u ∷ []) (115 ∷ []))))

one_unit : (text p front : List ℕ) (u : ℕ) → 10 ≤ digit_value u → text ≡ p ++ (u ∷ 115 ∷ []) → text ≡ front ++ (115 ∷ []) → AllDigits 10 front → ⊥
one_unit text p front u h e f a =
    let same : front ≡ p ++ (u ∷ []) =
    append_cancel_right front (p ++ (u ∷ [])) (115 ∷ []) (sym f ∙ e ∙ sym (append_assoc p (u ∷ []) (115 ∷ []))) in
    digits_end p u h (subst (λ (xs : List ℕ). AllDigits 10 xs) same a)

pub parted_by_ns : (text p front : List ℕ) (each : ℕ) → text ≡ p ++ codes "ns" → IsParted text front each → IsNumeral 10 front → (front ≡ p) × (each ≡ 1)
parted_by_ns text p front each e (inl h) a = ((two_units text p front 110 110 e h.0).0, h.1)
parted_by_ns text p front each e (inr (inl h)) a = absurd (omega (arith, (two_units text p front 110 117 e h.0).1))
parted_by_ns text p front each e (inr (inr (inl h))) a = absurd (omega (arith, (two_units text p front 110 109 e h.0).1))
parted_by_ns text p front each e (inr (inr (inr h))) a = absurd (one_unit text p front 110 (omega arith) e h.0 a.1)

pub parted_by_us : (text p front : List ℕ) (each : ℕ) → text ≡ p ++ codes "us" → IsParted text front each → IsNumeral 10 front → (front ≡ p) × (each ≡ 1000)
parted_by_us text p front each e (inl h) a = absurd (omega (arith, (two_units text p front 117 110 e h.0).1))
parted_by_us text p front each e (inr (inl h)) a = ((two_units text p front 117 117 e h.0).0, h.1)
parted_by_us text p front each e (inr (inr (inl h))) a = absurd (omega (arith, (two_units text p front 117 109 e h.0).1))
parted_by_us text p front each e (inr (inr (inr h))) a = absurd (one_unit text p front 117 (omega arith) e h.0 a.1)

pub parted_by_ms : (text p front : List ℕ) (each : ℕ) → text ≡ p ++ codes "ms" → IsParted text front each → IsNumeral 10 front → (front ≡ p) × (each ≡ 1000000)
parted_by_ms text p front each e (inl h) a = absurd (omega (arith, (two_units text p front 109 110 e h.0).1))
parted_by_ms text p front each e (inr (inl h)) a = absurd (omega (arith, (two_units text p front 109 117 e h.0).1))
parted_by_ms text p front each e (inr (inr (inl h))) a = ((two_units text p front 109 109 e h.0).0, h.1)
parted_by_ms text p front each e (inr (inr (inr h))) a = absurd (one_unit text p front 109 (omega arith) e h.0 a.1)

-- ---- one length

-- what a unit has, by its first letter
abbrev each_of : ℕ → ℕ
each_of c = cond (c == 110) 1 (cond (c == 117) 1000 (cond (c == 109) 1000000 1000000000))

record IsBehind (text front : List ℕ) (each : ℕ) : Type 0 where
  letter : ℕ
  rest : List ℕ
  is : text ≡ front ++ (letter ∷ rest)
  none : 10 ≤ digit_value letter
  unit : each ≡ each_of letter

behind : (text front : List ℕ) (each : ℕ) → IsParted text front each → IsBehind text front each
behind text front each (inl h) = record { letter = 110; rest = 115 ∷ []; is = h.0; none = omega arith; unit = h.1 }
behind text front each (inr (inl h)) = record { letter = 117; rest = 115 ∷ []; is = h.0; none = omega arith; unit = h.1 }
behind text front each (inr (inr (inl h))) = record { letter = 109; rest = 115 ∷ []; is = h.0; none = omega arith; unit = h.1 }
behind text front each (inr (inr (inr h))) = record { letter = 115; rest = []; is = h.0; none = omega arith; unit = h.1 }

one_part : (text ds es : List ℕ) (m n : ℕ) → IsParted text ds m → IsNumeral 10 ds → IsParted text es n → IsNumeral 10 es → digits_value 10 ds * m ≡ digits_value 10 es * n
one_part text ds es m n p a q b =
    let x : IsBehind text ds m = behind text ds m p in
    let y : IsBehind text es n = behind text es n q in
    let same : (ds ≡ es) × (x.letter ∷ x.rest ≡ y.letter ∷ y.rest) = behind_digits ds es x.rest y.rest x.letter y.letter a.1 b.1 x.none y.none (sym x.is ∙ y.is) in
    let each : m ≡ n = x.unit ∙ ap (λ (c : ℕ). each_of c) (same_head _ _ _ _ same.1).0 ∙ sym y.unit in
    ap (λ (zs : List ℕ). digits_value 10 zs * m) same.0 ∙ ap (λ (k : ℕ). digits_value 10 es * k) each

two_bytes : (text front : List ℕ) (u : ℕ) → text ≡ codes "0" → text ≡ front ++ (u ∷ 115 ∷ []) → ⊥
two_bytes text front u e f = omega (arith, ap (λ (xs : List ℕ). length xs) (sym e ∙ f), length-append front (u ∷ 115 ∷ []))

no_part : (text front : List ℕ) (each : ℕ) → text ≡ codes "0" → IsParted text front each → ⊥
no_part text front each e (inl h) = two_bytes text front 110 e h.0
no_part text front each e (inr (inl h)) = two_bytes text front 117 e h.0
no_part text front each e (inr (inr (inl h))) = two_bytes text front 109 e h.0
no_part text front each e (inr (inr (inr h))) = omega (arith, (same_last [] front 48 115 (sym e ∙ h.0)).1)

pub one_length : (text : List ℕ) (m n : ℕ) → IsLength text m → IsLength text n → m ≡ n
one_length text m n (inl a) (inl b) = a.1 ∙ sym b.1
one_length text m n (inl a) (inr b) = absurd (no_part text b.0 b.1 a.0 b.2)
one_length text m n (inr a) (inl b) = absurd (no_part text a.0 a.1 b.0 a.2)
one_length text m n (inr a) (inr b) = a.4 ∙ one_part text a.0 b.0 a.1 b.1 a.2 a.3 b.2 b.3 ∙ sym b.4

some_each : (text front : List ℕ) (each : ℕ) → IsParted text front each → 1 ≤ each
some_each text front each (inl h) = omega (arith, h.1)
some_each text front each (inr (inl h)) = omega (arith, h.1)
some_each text front each (inr (inr (inl h))) = omega (arith, h.1)
some_each text front each (inr (inr (inr h))) = omega (arith, h.1)

le_product : (m n : ℕ) → 1 ≤ n → m ≤ m * n
le_product m n some = grind arith

the_length : (text part : List ℕ) (unit ns : ℕ) → text ≢ codes "0" → IsOnlyPart text part unit → IsLength text ns → IsNumeral 10 part × (ns ≡ digits_value 10 part * unit)
the_length text part unit ns no_zero only (inl h) = absurd (no_zero h.0)
the_length text part unit ns no_zero only (inr h) =
    let same : (h.0 ≡ part) × (h.1 ≡ unit) = only h.0 h.1 h.2 h.3 in (
      subst (λ (xs : List ℕ). IsNumeral 10 xs) same.0 h.3,
      h.4 ∙ ap (λ (xs : List ℕ). digits_value 10 xs * h.1) same.0 ∙ ap (λ (k : ℕ). digits_value 10 part * k) same.1,
    )

pub unparted : (limit ns : ℕ) (text : List ℕ) → text ≢ codes "0" → ((front : List ℕ) (each : ℕ) → IsParted text front each → ⊥) → IsLength text ns → limit < ns
unparted limit ns text no_zero none (inl h) = absurd (no_zero h.0)
unparted limit ns text no_zero none (inr h) = absurd (none h.0 h.1 h.2)

pub great_number : (limit unit ns : ℕ) (text part : List ℕ) → limit < 2 ^ 64 → text ≢ codes "0" → IsOnlyPart text part unit → IsParted text part unit
    → (IsNumeral 10 part → 2 ^ 64 ≤ digits_value 10 part) → IsLength text ns → limit < ns
great_number limit unit ns text part few no_zero only parted great l =
    let is : IsNumeral 10 part × (ns ≡ digits_value 10 part * unit) = the_length text part unit ns no_zero only l in
    omega (arith, few, great is.0, is.1, le_product (digits_value 10 part) unit (some_each text part unit parted))

pub great_product : (limit unit ns n : ℕ) (text part : List ℕ) → text ≢ codes "0" → IsOnlyPart text part unit → n ≡ digits_value 10 part → limit < n * unit
    → IsLength text ns → limit < ns
great_product limit unit ns n text part no_zero only same great l =
    subst (λ (k : ℕ). limit < k) (sym ((the_length text part unit ns no_zero only l).1 ∙ ap (λ (k : ℕ). k * unit) (sym same))) great

-- ---- one span

abbrev HasNoPoint : List ℕ → Type 0
HasNoPoint [] = ⊤
HasNoPoint (c ∷ cs) = (c ≢ 46) × HasNoPoint cs

both_without : (xs ys : List ℕ) → HasNoPoint xs → HasNoPoint ys → HasNoPoint (xs ++ ys)
both_without [] ys a b = b
both_without (x ∷ xs) ys a b = (a.0, both_without xs ys a.1 b)

digits_without : (ds : List ℕ) → AllDigits 10 ds → HasNoPoint ds
digits_without [] a = tt
digits_without (c ∷ ds) a = ((λ (e : c ≡ 46). no_digit c 46 a.0 (omega arith) e), digits_without ds a.1)

unit_without : (text front unit : List ℕ) → text ≡ front ++ unit → AllDigits 10 front → HasNoPoint unit → HasNoPoint text
unit_without text front unit e a h = subst (λ (xs : List ℕ). HasNoPoint xs) (sym e) (both_without front unit (digits_without front a) h)

part_without : (text front : List ℕ) (each : ℕ) → IsParted text front each → AllDigits 10 front → HasNoPoint text
part_without text front each (inl h) a = unit_without text front (codes "ns") h.0 a (omega arith, (omega arith, tt))
part_without text front each (inr (inl h)) a = unit_without text front (codes "us") h.0 a (omega arith, (omega arith, tt))
part_without text front each (inr (inr (inl h))) a = unit_without text front (codes "ms") h.0 a (omega arith, (omega arith, tt))
part_without text front each (inr (inr (inr h))) a = unit_without text front (codes "s") h.0 a (omega arith, tt)

length_without : (text : List ℕ) (n : ℕ) → IsLength text n → HasNoPoint text
length_without text n (inl a) = subst (λ (xs : List ℕ). HasNoPoint xs) (sym a.0) (omega arith, tt)
length_without text n (inr a) = part_without text a.0 a.1 a.2 a.3.1

no_point_within : (front back : List ℕ) → HasNoPoint (front ++ (46 ∷ back)) → ⊥
no_point_within [] back h = h.0 refl
no_point_within (c ∷ front) back h = no_point_within front back h.1

-- the first two points stand behind a text without any
first_points : (f front b back : List ℕ) → HasNoPoint f → f ++ (46 ∷ 46 ∷ b) ≡ front ++ (46 ∷ 46 ∷ back)
    → ((i : ℕ) → i < length front → LacksTextAt (codes "..") (f ++ (46 ∷ 46 ∷ b)) i) → (f ≡ front) × (b ≡ back)
first_points [] [] b back h e first = (refl, (same_head _ _ _ _ (same_head _ _ _ _ e).1).1)
first_points [] (c ∷ front) b back h e first = absurd (first 0 (omega arith) b refl)
first_points (x ∷ f) [] b back h e first = absurd (h.0 (same_head _ _ _ _ e).0)
first_points (x ∷ f) (c ∷ front) b back h e first =
    let heads : (x ≡ c) × (f ++ (46 ∷ 46 ∷ b) ≡ front ++ (46 ∷ 46 ∷ back)) = same_head _ _ _ _ e in
    let rest : (f ≡ front) × (b ≡ back) = first_points f front b back h.1 heads.1 (λ i within. first (suc i) (omega (arith, within))) in
    (grind (arith, heads.0, rest.0), rest.1)

-- a span of two lengths is cut at its first two points
pub span_cut : (text front back : List ℕ) (i least most : ℕ) → text ≡ front ++ (codes ".." ++ back) → length front ≡ i
    → ((k : ℕ) → k < i → LacksTextAt (codes "..") text k) → IsSpan text least most → IsLength front least × IsLength back most
span_cut text front back i least most e at first (inl a) =
    absurd (no_point_within front (46 ∷ back) (subst (λ (xs : List ℕ). HasNoPoint xs) e (length_without text least a.0)))
span_cut text front back i least most e at first (inr a) =
    let cut : text ≡ a.0 ++ (codes ".." ++ a.1) = a.2 ∙ append_assoc a.0 (codes "..") a.1 in
    let none_before : (k : ℕ) → k < length front → LacksTextAt (codes "..") (a.0 ++ (codes ".." ++ a.1)) k =
    subst (λ (xs : List ℕ). (k : ℕ) → k < length front → LacksTextAt (codes "..") xs k) cut (λ k within. first k (omega (arith, within, at))) in
    let same : (a.0 ≡ front) × (a.1 ≡ back) = first_points a.0 front a.1 back (length_without a.0 least a.3) (sym cut ∙ e) none_before in
    (subst (λ (xs : List ℕ). IsLength xs least) same.0 a.3, subst (λ (xs : List ℕ). IsLength xs most) same.1 a.4)

pub span_uncut : (text : List ℕ) (least most : ℕ) → ((xs ys : List ℕ) → text ≢ xs ++ (codes ".." ++ ys)) → IsSpan text least most → IsLength text least × (most ≡ least)
span_uncut text least most no_points (inl a) = a
span_uncut text least most no_points (inr a) = absurd (no_points a.0 a.1 (a.2 ∙ append_assoc a.0 (codes "..") a.1))
