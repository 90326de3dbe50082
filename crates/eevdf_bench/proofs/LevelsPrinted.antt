-- Printed nice levels are read back, and nothing else is read as them.
use Rattle.std.proofs.Common.{◌≡◌, ℕ, zero, suc, ◌<◌, ◌^◌, true, false, eqb, List, [], ◌∷◌, ◌++◌, length, Option, Some, None, option_map, option_and_then, refl, ap, ◌∙◌, inl, inr, arith}
use Rattle.std.specs.Prelude.{ℤ, pos, negsuc}
use Rattle.std.specs.{Char.is_ascii_digit, Fmt.decimal, Fmt.signed_decimal, List.list_all}
use Rattle.std.proofs.{lemmas.Bool.and_parts, lemmas.Bool.cases_Bool, lemmas.Bool.Decides.nat_tests, lemmas.Fmt.decimal_nonempty}
use Rattle.std.proofs.{lemmas.Fmt.digits_decimal, lemmas.Int.ints, lemmas.Option.none-some, lemmas.Option.cond_some}
use Rattle.eevdf_weight.specs.Limits.{checked_level, is_nice_level}
use Rattle.eevdf_workload.specs.Words.{words, number, below_zero, signed_number, level_in}
use Rattle.eevdf_workload.proofs.ReadingLevels.{is_sign}
use Rattle.eevdf_bench.proofs.ReadingPrinted.{digits, number-decimal, decimal-number, words-decimal, words-after_decimal}

few_above : (n : ℕ) → is_nice_level (pos n) ≡ true → n < 2 ^ 64
few_above n h = grind (arith, ints, nat_tests)

few_below : (n : ℕ) → is_nice_level (negsuc n) ≡ true → suc n < 2 ^ 64
few_below n h = grind (arith, ints, nat_tests)

-- digits have no sign
digit_is_no_sign : (c : ℕ) → is_ascii_digit c ≡ true → eqb c 45 ≡ false
digit_is_no_sign c h = grind (arith, nat_tests)

unsigned : (ds : List ℕ) → 0 < length ds → list_all is_ascii_digit ds ≡ true → signed_number ds ≡ option_map pos (number ds)
unsigned [] some h = absurd (omega arith)
unsigned (c ∷ ds) some h = rw (digit_is_no_sign c (and_parts (is_ascii_digit c) (list_all is_ascii_digit ds) h).0)

-- a printed level is one word, which is read as that level
pub level-printed : (z : ℤ) → is_nice_level z ≡ true → level_in (signed_decimal z) ≡ Some z
level-printed (pos n) h =
    let small = few_above n h in
    rw (unsigned (decimal n) (decimal_nonempty n small) (digits_decimal digits n small), number-decimal n small, h)
level-printed (negsuc n) h = rw (number-decimal (suc n) (few_below n h), h)

pub words-printed : (z : ℤ) → is_nice_level z ≡ true → words (signed_decimal z) ≡ signed_decimal z ∷ []
words-printed (pos n) h = words-decimal n (few_above n h)
words-printed (negsuc n) h = rw (words-decimal (suc n) (few_below n h))

-- a printed level, and the words behind it
pub words-after_level : (z : ℤ) (text : List ℕ) → is_nice_level z ≡ true → words (signed_decimal z ++ 32 ∷ text) ≡ signed_decimal z ∷ words text
words-after_level (pos n) text h = words-after_decimal n text (few_above n h)
words-after_level (negsuc n) text h = rw (words-after_decimal (suc n) text (few_below n h))

-- a word that is read as a level is that level as it is printed
read_above : (word : List ℕ) (z : ℤ) → option_and_then checked_level (option_map pos (number word)) ≡ Some z → word ≡ signed_decimal z
read_above word z h = go (number word) refl h
  where
    go : (o : Option ℕ) → number word ≡ o → option_and_then checked_level (option_map pos o) ≡ Some z → word ≡ signed_decimal z
    go None e h = absurd (none-some z h)
    go (Some n) e h =
        let (level, same) = cond_some (is_nice_level (pos n)) (pos n) z h in
        decimal-number word n e (few_above n level) ∙ ap signed_decimal same

read_below : (word : List ℕ) (z : ℤ) → option_and_then checked_level (option_and_then below_zero (number word)) ≡ Some z → 45 ∷ word ≡ signed_decimal z
read_below word z h = go (number word) refl h
  where
    go : (o : Option ℕ) → number word ≡ o → option_and_then checked_level (option_and_then below_zero o) ≡ Some z → 45 ∷ word ≡ signed_decimal z
    go None e h = absurd (none-some z h)
    go (Some zero) e h = absurd (none-some z h)
    go (Some (suc n)) e h =
        let (level, same) = cond_some (is_nice_level (negsuc n)) (negsuc n) z h in
        ap (λ (ds : List ℕ). 45 ∷ ds) (decimal-number word (suc n) e (few_below n level)) ∙ ap signed_decimal same

pub printed-level : (word : List ℕ) (z : ℤ) → level_in word ≡ Some z → word ≡ signed_decimal z
printed-level [] z h = absurd (none-some z h)
printed-level (c ∷ cs) z h =
    elim (cases_Bool (eqb c 45)) [
      | inl sign ↦ ap (λ (d : ℕ). d ∷ cs) (is_sign c sign) ∙ read_below cs z (rw sign at h)
      | inr other ↦ read_above (c ∷ cs) z (rw other at h)
    ]
