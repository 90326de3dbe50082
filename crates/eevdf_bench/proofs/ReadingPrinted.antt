-- Printed numbers are read back, and nothing else is read as them.
use Rattle.std.proofs.Common.{◌≡◌, ◌≢◌, ℕ, zero, suc, ◌<◌, ◌≤◌, ◌^◌, true, List, [], ◌∷◌, ◌++◌, length, get_or, Some, refl, ap, sym, ◌∙◌, inl, inr, arith, rules}
use Rattle.std.specs.{Fmt.decimal, Char.is_ascii_digit, List.list_all, List.join_with_byte, Str.Parse.digits_value}
use Rattle.std.proofs.lemmas.Bool.{and_parts, cases_Bool, false≢true}
use Rattle.std.proofs.{lemmas.Bool.Decides.nat_tests, lemmas.Option.same_Some, lemmas.Option.none-some}
use Rattle.std.proofs.lemmas.List.Splits.{join_with_byte-slice_split}
use Rattle.std.proofs.lemmas.Fmt.{decimal_digit, decimal_nonempty, first_decimal, digits_decimal, digits_value-decimal, decimal-digits_value}
use Rattle.std.proofs.lemmas.Str.Parse.{IsNumeralModel, numerals_by_value}
use Rattle.eevdf_workload.specs.Words.{words, is_number, number}
use Rattle.eevdf_workload.proofs.ReadingWords.{digit_is_no_space, has_digits, words-digits}

is_number-no_zero : (word : List ℕ) → 1 ≤ length word → get_or word 0 0 ≢ 48 → is_number word ≡ list_all is_ascii_digit word
is_number-no_zero [] h n = absurd (omega arith)
is_number-no_zero (c ∷ cs) h n = grind (arith, nat_tests)

pub digits : IsNumeralModel (λ ds. list_all is_ascii_digit ds ≡ true) (digits_value 10)
digits = numerals_by_value _ (search rules)

is_number-decimal : (n : ℕ) → n < 2 ^ 64 → is_number (decimal n) ≡ true
is_number-decimal zero h = rw (decimal_digit 0 (omega arith))
is_number-decimal (suc n) h =
    let first : 48 < get_or (decimal (suc n)) 0 0 = first_decimal (suc n) (omega arith) h in
    let some : 0 < length (decimal (suc n)) = decimal_nonempty (suc n) h in
    is_number-no_zero (decimal (suc n)) some (omega arith) ∙ digits_decimal digits (suc n) h

-- the number that a printed one is, and the text of a number that is read
pub number-decimal : (n : ℕ) → n < 2 ^ 64 → number (decimal n) ≡ Some n
unfolding number
number-decimal n h = rw (is_number-decimal n h, digits_value-decimal digits n h)

zero_alone : (word : List ℕ) → is_number word ≡ true → get_or word 0 0 ≡ 48 → length word ≡ 1
zero_alone [] h z = absurd (false≢true h)
zero_alone (c ∷ cs) h z = grind (arith, nat_tests)

pub decimal-number : (word : List ℕ) (n : ℕ) → number word ≡ Some n → n < 2 ^ 64 → word ≡ decimal n
unfolding number
decimal-number word n read h =
    elim (cases_Bool (is_number word)) [
      | inl numeral ↦
          let value : digits_value 10 word ≡ n = same_Some _ _ (rw numeral at read) in
          let has = has_digits word numeral in
          let back : decimal (digits_value 10 word) ≡ word = decimal-digits_value digits word has.0 has.1 (zero_alone word numeral) (omega arith) in
          sym back ∙ ap decimal value
      | inr other ↦ absurd (none-some n (rw other at read))
    ]

pub words-decimal : (n : ℕ) → n < 2 ^ 64 → words (decimal n) ≡ decimal n ∷ []
words-decimal n h = words-digits (decimal n) (digits_decimal digits n h)

-- a text is its words, with a space between each two
pub joined_words : (text : List ℕ) → join_with_byte 32 (words text) ≡ text
joined_words text = join_with_byte-slice_split 32 text

-- digits, and the words behind them
words-after_digits : (ds text : List ℕ) → list_all is_ascii_digit ds ≡ true → words (ds ++ 32 ∷ text) ≡ ds ∷ words text
words-after_digits [] text h = refl
words-after_digits (d ∷ ds) text h =
    let (here, more) = and_parts (is_ascii_digit d) (list_all is_ascii_digit ds) h in
    rw (digit_is_no_space d here, words-after_digits ds text more)

-- a printed number, and the words behind it
pub words-after_decimal : (n : ℕ) (text : List ℕ) → n < 2 ^ 64 → words (decimal n ++ 32 ∷ text) ≡ decimal n ∷ words text
words-after_decimal n text h = words-after_digits (decimal n) text (digits_decimal digits n h)
