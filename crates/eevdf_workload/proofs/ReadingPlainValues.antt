-- Numbers, strings and keys, as they are read without a tree.
use Rattle.std.proofs.Common.{◌≡◌, ℕ, true, false, ◌==◌, ℤ, List, [], ◌∷◌, length, drop, Option, Some, Result, Ok, refl, ap, ◌∙◌, arith}
use Rattle.std.specs.Prelude.{pos, negsuc, string_bytes, IfSome}
use Rattle.std.proofs.lemmas.Option.{none-some, same_Some}
use Rattle.std.specs.Char.{is_ascii_digit}
use Rattle.std.proofs.lemmas.Bool.Decides.{nat_tests}
use Rattle.toml_parser.specs.Lexical.{first, skip_ws}
use Rattle.toml_parser.specs.Strings.{starts_string, key, quoted}
use Rattle.toml_parser.specs.Reading.{Gives, key_view}
use Rattle.toml_parser.specs.declared.key.Key as code
use Rattle.toml_parser.specs.declared.error.ParseError.{ParseError}
use Rattle.toml_parser.specs.Numbers.{unquoted}
use Rattle.toml_parser.specs.declared.scalar.Scalar.TheVariants.{Integer}
use Rattle.toml.specs.Data.{integer, string}
use Rattle.toml.specs.Parse.{atom, val, key_equals}
use Rattle.toml.proofs.Turns.{val_atom}
use Rattle.eevdf_workload.specs.MeaningSteps.{natural}

word_atom : (text after : List ℕ) (z : ℤ) → starts_string text ≡ false → unquoted text ≡ Some (Integer z, after) → atom text ≡ Some (integer z, after)
unfolding atom
word_atom text after z other read = rw (other, read) refl

-- what begins with a digit is read as a word
pub number_read : (depth : ℕ) (text after : List ℕ) (z : ℤ) → is_ascii_digit (first text) ≡ true → unquoted text ≡ Some (Integer z, after) → val depth text ≡ Some (integer z, after)
number_read depth text after z digit read =
    let bracket : (first text == 91) ≡ false = grind (arith, nat_tests) in
    let brace : (first text == 123) ≡ false = grind (arith, nat_tests) in
    let quotes : starts_string text ≡ false = grind (arith, nat_tests) in
    val_atom depth text bracket brace ∙ word_atom text after z quotes read

-- what a reader found
pub found_by : {A B : Type 0} (f : A → B) (r : Result A ParseError) (expected : Option B) (found : Option A) (a : A) → Gives f r expected → IfSome found (λ v. r ≡ Ok v) → found ≡ Some a → expected ≡ Some (f a)
found_by f r expected found a gives ok is = let this = rw is at ok in rw this at gives

pub natural_is : (z : ℤ) (n : ℕ) → natural z ≡ Some n → z ≡ pos n
natural_is (pos m) n is = ap pos (same_Some m n is)
natural_is (negsuc m) n is = absurd (none-some n is)

none_of : {A : Type 0} (xs : List A) → length xs ≡ 0 → xs ≡ []
none_of [] none = refl
none_of (x ∷ xs) none = absurd (omega arith)

pub key_read : (text after : List ℕ) (k : code.Key) → key text ≡ Some (key_view k, after) → length k.path.items ≡ 0 → (first after == 61) ≡ true → key_equals text ≡ Some (([], string_bytes k.last), skip_ws (drop 1 after))
unfolding key_equals
key_read text after k read alone sign =
    let none : k.path.items ≡ [] = none_of k.path.items alone in
    rw (read, sign, none) refl

-- a string is read as it stands
pub string_read : (depth : ℕ) (text s after : List ℕ) → starts_string text ≡ true → quoted text ≡ Some (s, after) → val depth text ≡ Some (string s, after)
unfolding atom
string_read depth text s after delimited read =
    let bracket : (first text == 91) ≡ false = grind (arith, nat_tests) in
    let brace : (first text == 123) ≡ false = grind (arith, nat_tests) in
    val_atom depth text bracket brace ∙ rw (delimited, read) refl
