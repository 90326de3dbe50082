-- How a page has texts that come from elsewhere.
use Rattle.std.specs.List.{flat_map}
use Rattle.std.specs.Prelude.{ℕ, ◌+◌, ◌/◌, ◌%◌, nat_eq, Bool, ◌||◌, List, [], ◌∷◌, if◌then◌else◌}

-- in a script: in place of `<`, which is 60, the text `\u003c`
abbrev pub byte_of_script : ℕ → List ℕ
byte_of_script b = if nat_eq b 60 then 92 ∷ 117 ∷ 48 ∷ 48 ∷ 51 ∷ 99 ∷ [] else b ∷ []

abbrev pub of_script : List ℕ → List ℕ
of_script bytes = flat_map byte_of_script bytes

-- elsewhere: in place of `"`, `&`, `'`, `<` and `>` the texts `&#34;`, `&#38;`, `&#39;`, `&#60;` and `&#62;`
abbrev pub is_marked : ℕ → Bool
is_marked b = nat_eq b 34 || nat_eq b 38 || nat_eq b 39 || nat_eq b 60 || nat_eq b 62

abbrev pub byte_of_html : ℕ → List ℕ
byte_of_html b = if is_marked b then 38 ∷ 35 ∷ (48 + b / 10) ∷ (48 + b % 10) ∷ 59 ∷ [] else b ∷ []

abbrev pub of_html : List ℕ → List ℕ
of_html bytes = flat_map byte_of_html bytes
