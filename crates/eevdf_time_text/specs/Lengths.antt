-- Lengths of time as they are written.
use Rattle.std.specs.Prelude.{◌≡◌, ◌⊎◌, ◌++◌, ◌*◌, ◌^◌, ℕ, List, codes}
use Rattle.std.specs.Str.Parse.{IsNumeral, digits_value}

-- a million seconds, in nanoseconds
abbrev pub most_ns : ℕ
most_ns = 10 ^ 15

-- the text is this front with a unit behind it, which has so many nanoseconds
abbrev pub IsParted : List ℕ → List ℕ → ℕ → Type 0
IsParted text front each =
    ((text ≡ front ++ codes "ns") × (each ≡ 1))
    ⊎ ((text ≡ front ++ codes "us") × (each ≡ 1000))
    ⊎ ((text ≡ front ++ codes "ms") × (each ≡ 1000000))
    ⊎ ((text ≡ front ++ codes "s") × (each ≡ 1000000000))

-- in no other way does the text have digits in front of a unit
abbrev pub IsOnlyPart : List ℕ → List ℕ → ℕ → Type 0
IsOnlyPart text digits unit = (front : List ℕ) (each : ℕ) → IsParted text front each → IsNumeral 10 front → (front ≡ digits) × (each ≡ unit)

-- the text is 0, or a whole number with its unit right behind it, and the time is so many nanoseconds
abbrev pub IsLength : List ℕ → ℕ → Type 0
IsLength text ns =
    ((text ≡ codes "0") × (ns ≡ 0))
    ⊎ ((digits : List ℕ) × (each : ℕ) × IsParted text digits each × IsNumeral 10 digits × (ns ≡ digits_value 10 digits * each))

-- the text is one length of time, or two with two points between them
abbrev pub IsSpan : List ℕ → ℕ → ℕ → Type 0
IsSpan text least most =
    (IsLength text least × (most ≡ least))
    ⊎ ((front : List ℕ) × (back : List ℕ) × (text ≡ front ++ codes ".." ++ back) × IsLength front least × IsLength back most)

-- the text is no other span
abbrev pub IsOnlySpan : List ℕ → ℕ → ℕ → Type 0
IsOnlySpan text first last = (least most : ℕ) → IsSpan text least most → (least ≡ first) × (most ≡ last)
