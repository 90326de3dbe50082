-- What the words of any of the programs ask for, before they are read as its own.
use Rattle.std.specs.Prelude.{ℕ, Bool, false, true, ◌==◌, if◌then◌else◌, List, [], ◌∷◌, drop}
use Rattle.std.specs.Str.{bytes_eq}

-- a word is among others
abbrev pub is_among : List ℕ → List (List ℕ) → Bool
is_among word [] = false
is_among word (w ∷ ws) = if bytes_eq w word then true else is_among word ws

-- a word stands behind the program's name
abbrev pub asks_for : List ℕ → List (List ℕ) → Bool
asks_for asked words = is_among asked (drop 1 words)

-- a word may be the name of a file: it isn't empty, and doesn't begin with `-`
abbrev pub may_name_file : List ℕ → Bool
may_name_file [] = false
may_name_file (c ∷ cs) = if c == 45 then false else true
