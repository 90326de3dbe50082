-- Words and numbers, as the reader finds them.
use Rattle.std.proofs.Common.{◌≡◌, ◌≢◌, ℕ, ◌<◌, ◌≤◌, ◌+◌, ◌-◌, ◌*◌, ◌^◌, true, false, cond, eqb, ltb, List, [], ◌∷◌, take, drop, length, get_or, Option, Bor, Some, None, option_and_then, refl, ap, sym, ◌∙◌, inl, inr, arith}
use Rattle.std.proofs.lemmas.Bool.{cases_Bool, false≢true, and_parts, Decides.nat_tests}
use Rattle.std.proofs.lemmas.List.Splits.{slice_split_first, length-slice_split, join_with_byte-slice_split}
use Rattle.std.specs.{Char.is_ascii_digit, Str.Parse.digits_value_after}
use Rattle.std.specs.Char.{digit_value}
use Rattle.std.specs.List.{list_all, join_with_byte, onto_first, position_or_len}
use Rattle.std.proofs.lemmas.{List.take_rest, Option.same_Some, Option.none-some}
use Rattle.eevdf_workload.specs.Words.{words, words_left, is_number, number, fitting, first_number, number_on}

-- each text has a word, be it an empty one
pub some_word : (text : List ℕ) → 0 < length (words text)
some_word text = omega (arith, length-slice_split (λ b. eqb b 32) text)

pub digit_is_no_space : (c : ℕ) → is_ascii_digit c ≡ true → eqb c 32 ≡ false
digit_is_no_space c h = grind (arith, nat_tests)

-- more digits write no smaller number
digits_over : (n : ℕ) (ds : List ℕ) → n ≤ digits_value_after 10 n ds
digits_over n [] = omega arith
digits_over n (d ∷ ds) = omega (arith, digits_over (n * 10 + digit_value d) ds)

pub number_on-over : (n : ℕ) (ws : List (List ℕ)) → 2 ^ 64 ≤ n → number_on n ws ≡ None
number_on-over n [] h = refl
number_on-over n (w ∷ ws) h = grind (arith, nat_tests, digits_over n w)

-- a byte that is no space stands in the first word
pub number_on-digit : (n c : ℕ) (text : List ℕ) → eqb c 32 ≡ false → is_ascii_digit c ≡ true → number_on n (words (c ∷ text)) ≡ number_on (n * 10 + digit_value c) (words text)
number_on-digit n c text h d = rw h (go (words text) (some_word text))
  where
    go : (ws : List (List ℕ)) → 0 < length ws → number_on n (onto_first c ws) ≡ number_on (n * 10 + digit_value c) ws
    go [] some = absurd (omega arith)
    go (w ∷ ws) some = rw d

pub number_on-other : (n c : ℕ) (text : List ℕ) → eqb c 32 ≡ false → is_ascii_digit c ≡ false → number_on n (words (c ∷ text)) ≡ None
number_on-other n c text h d = rw h (go (words text))
  where
    go : (ws : List (List ℕ)) → number_on n (onto_first c ws) ≡ None
    go [] = rw d
    go (w ∷ ws) = rw d

-- a number that begins with another digit than 0 is its digits'
pub first_number-digits : (c : ℕ) (text : List ℕ) → eqb c 32 ≡ false → eqb c 48 ≡ false → first_number (words (c ∷ text)) ≡ number_on 0 (words (c ∷ text))
unfolding number
first_number-digits c text h z = rw h (go (words text))
  where
    go : (ws : List (List ℕ)) → first_number (onto_first c ws) ≡ number_on 0 (onto_first c ws)
    go [] = grind (arith, nat_tests)
    go (w ∷ ws) = grind (arith, nat_tests)

pub empty_text : (text : List ℕ) → length text < 1 → first_number (words text) ≡ None
unfolding number
empty_text [] h = refl
empty_text (c ∷ cs) h = absurd (omega arith)

pub first_digit : (text : List ℕ) → 1 ≤ length text → get_or text 0 0 ≢ 48 → is_ascii_digit (get_or text 0 0) ≡ true → first_number (words text) ≡ number_on 0 (words text)
first_digit [] some h digit = absurd (omega arith)
first_digit (c ∷ cs) some h digit = first_number-digits c cs (digit_is_no_space c digit) (grind (arith, nat_tests))

pub no_digit : (text : List ℕ) → 1 ≤ length text → get_or text 0 0 ≢ 48 → is_ascii_digit (get_or text 0 0) ≡ false → first_number (words text) ≡ None
unfolding number
no_digit [] some h other = absurd (omega arith)
no_digit (c ∷ cs) some h other =
    elim (cases_Bool (eqb c 32)) [
      | inl space ↦ rw space
      | inr within ↦ first_number-digits c cs within (grind (arith, nat_tests)) ∙ number_on-other 0 c cs within other
    ]

-- a word that begins with 0
pub zero_alone : (after : List ℕ) → length after < 1 → (first_number (words (48 ∷ after)) ≡ Some 0) × ([] ≡ drop 1 (words (48 ∷ after)))
unfolding number
zero_alone [] h = (refl, refl)
zero_alone (c ∷ cs) h = absurd (omega arith)

pub zero_before : (after : List ℕ) → 1 ≤ length after → get_or after 0 0 ≡ 32 → (first_number (words (48 ∷ after)) ≡ Some 0) × (words (take (length after - 1) (drop 1 after)) ≡ drop 1 (words (48 ∷ after)))
unfolding number
zero_before [] some h = absurd (omega arith)
zero_before (c ∷ cs) some h = rw (h, take_rest (c ∷ cs) 1) (refl, refl)

pub zero_within : (after : List ℕ) → 1 ≤ length after → get_or after 0 0 ≢ 32 → first_number (words (48 ∷ after)) ≡ None
unfolding number
zero_within [] some h = absurd (omega arith)
zero_within (c ∷ cs) some h = rw (no_space c h) (go (words cs))
  where
    no_space : (c : ℕ) → c ≢ 32 → eqb c 32 ≡ false
    no_space c h = grind (arith, nat_tests)

    go : (ws : List (List ℕ)) → first_number (onto_first 48 (onto_first c ws)) ≡ None
    go [] = refl
    go (w ∷ ws) = grind (arith, nat_tests)

-- a text that is one word
pub one_word : (text : List ℕ) → drop 1 (words text) ≡ [] → words text ≡ text ∷ []
one_word text h = go (words text) (some_word text) h (join_with_byte-slice_split 32 text)
  where
    go : (ws : List (List ℕ)) → 0 < length ws → drop 1 ws ≡ [] → join_with_byte 32 ws ≡ text → ws ≡ text ∷ []
    go [] some h joined = absurd (omega arith)
    go (w ∷ []) some h joined = rw joined
    go (w ∷ v ∷ ws) some h joined = absurd (omega (arith, ap length h))

pub words-digits : (ds : List ℕ) → list_all is_ascii_digit ds ≡ true → words ds ≡ ds ∷ []
words-digits [] h = refl
words-digits (d ∷ ds) h =
    let (here, more) = and_parts (is_ascii_digit d) (list_all is_ascii_digit ds) h in
    rw (digit_is_no_space d here, words-digits ds more)

-- a number has a digit, and digits alone
pub has_digits : (word : List ℕ) → is_number word ≡ true → (list_all is_ascii_digit word ≡ true) × (0 < length word)
has_digits [] h = absurd (false≢true h)
has_digits (c ∷ []) h =
    elim (cases_Bool (eqb c 48)) [
      | inl zero ↦ grind (arith, nat_tests)
      | inr other ↦ (rw other at h, omega arith)
    ]
has_digits (c ∷ d ∷ cs) h =
    elim (cases_Bool (eqb c 48)) [
      | inl zero ↦
          let e : eqb (length (d ∷ cs)) 0 ≡ true = rw zero at h in
          grind (arith, nat_tests)
      | inr other ↦ (rw other at h, omega arith)
    ]

-- a number is one word
number_alone : (word : List ℕ) → is_number word ≡ true → words word ≡ word ∷ []
number_alone word h = words-digits word (has_digits word h).0

pub number_none : (word : List ℕ) → first_number (words word) ≡ None → None ≡ option_and_then fitting (number word)
unfolding number
number_none word h =
    elim (cases_Bool (is_number word)) [
      | inl numeral ↦ sym (rw (number_alone word numeral) at h)
      | inr other ↦ rw other
    ]

pub number_some : (word : List ℕ) (r : ℕ × Option (Bor (List ℕ))) → (first_number (words word) ≡ Some r.0) × (words_left r.1 ≡ drop 1 (words word)) → r.1 ≡ None → Some r.0 ≡ option_and_then fitting (number word)
number_some word r split end =
    let alone : words word ≡ word ∷ [] = one_word word (sym split.1 ∙ rw end) in
    sym (rw alone at split.0)

pub number_more : (word text : List ℕ) → words text ≡ drop 1 (words word) → None ≡ option_and_then fitting (number word)
unfolding number
number_more word text more =
    elim (cases_Bool (is_number word)) [
      | inl numeral ↦
          let none : words text ≡ [] = rw (number_alone word numeral) at more in
          absurd (omega (arith, some_word text, ap length none))
      | inr other ↦ rw other
    ]

-- the place of the first space, if there is one
abbrev pub first_space : List ℕ → Option ℕ
first_space text = cond (ltb (position_or_len (λ b. eqb b 32) text) (length text)) (Some (position_or_len (λ b. eqb b 32) text)) None

-- the words of a text that has a space, and of one that has none
pub words_before : (text : List ℕ) (end : ℕ) → first_space text ≡ Some end → words text ≡ take end text ∷ words (take (length text - (end + 1)) (drop (end + 1) text))
words_before text end at =
    elim (cases_Bool (ltb (position_or_len (λ b. eqb b 32) text) (length text))) [
      | inl within ↦
          let same : position_or_len (λ b. eqb b 32) text ≡ end = same_Some _ _ (rw within at at) in
          slice_split_first (λ b. eqb b 32) text 0 (grind (arith, nat_tests)) ∙ rw (same, take_rest text (end + 1))
      | inr none ↦ absurd (none-some end (rw none at at))
    ]

pub words_whole : (text : List ℕ) → first_space text ≡ None → words text ≡ text ∷ []
words_whole text none = whole text (grind (arith, nat_tests))
  where
    whole : (bytes : List ℕ) → length bytes ≤ position_or_len (λ b. eqb b 32) bytes → words bytes ≡ bytes ∷ []
    whole [] h = refl
    whole (b ∷ bs) h =
        elim (cases_Bool (eqb b 32)) [
          | inl space ↦ absurd (omega (arith, rw space at h))
          | inr other ↦ rw (other, whole bs (omega (arith, rw other at h)))
        ]

-- a byte that is no space leaves the words behind the first as they are
behind_digit : (c : ℕ) (text : List ℕ) → eqb c 32 ≡ false → drop 1 (words (c ∷ text)) ≡ drop 1 (words text)
behind_digit c text h = rw h (go (words text))
  where
    go : (ws : List (List ℕ)) → drop 1 (onto_first c ws) ≡ drop 1 ws
    go [] = refl
    go (w ∷ ws) = refl

-- one digit more is read
pub digit_more : (n m : ℕ) (text left : List ℕ) → number_on 0 (words text) ≡ number_on n (words left) → drop 1 (words text) ≡ drop 1 (words left) → 1 ≤ length left → 48 ≤ get_or left 0 0 → get_or left 0 0 < 58
    → m + 48 ≡ n * 10 + get_or left 0 0 → (number_on 0 (words text) ≡ number_on m (words (take (length left - 1) (drop 1 left)))) × (drop 1 (words text) ≡ drop 1 (words (take (length left - 1) (drop 1 left))))
digit_more n m text [] so behind some h k is = absurd (omega arith)
digit_more n m text (c ∷ cs) so behind some h k is =
    let digit : is_ascii_digit c ≡ true = grind (arith, nat_tests) in
    let value : digit_value c + 48 ≡ c = grind (arith, nat_tests) in
    let space : eqb c 32 ≡ false = digit_is_no_space c digit in
    rw (take_rest (c ∷ cs) 1)
    (so ∙ number_on-digit n c cs space digit ∙ ap (λ (x : ℕ). number_on x (words cs)) (omega (arith, value)), behind ∙ behind_digit c cs space)

-- further digits may be too many
pub overflow : (n : ℕ) (text left : List ℕ) → number_on 0 (words text) ≡ number_on n (words left) → 1 ≤ length left → 48 ≤ get_or left 0 0 → get_or left 0 0 < 58 → 2 ^ 64 + 48 ≤ n * 10 + get_or left 0 0 → number_on 0 (words text) ≡ None
overflow n text [] so some h k over = absurd (omega arith)
overflow n text (c ∷ cs) so some h k over =
    let digit : is_ascii_digit c ≡ true = grind (arith, nat_tests) in
    let value : digit_value c + 48 ≡ c = grind (arith, nat_tests) in
    so ∙ number_on-digit n c cs (digit_is_no_space c digit) digit ∙ number_on-over (n * 10 + digit_value c) (words cs) (omega (arith, value))
