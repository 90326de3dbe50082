-- Moments as they are written.
use Rattle.std.specs.Prelude.{◌≡◌, ◌++◌, ◌+◌, ◌*◌, ◌-◌, ◌^◌, ◌≤◌, ℕ, List, length, codes}
use Rattle.std.specs.Str.Parse.{IsNumeral, digits_value}

-- the text is whole seconds, a point and 1 to 9 digits behind it, and so many nanoseconds
abbrev pub IsMoment : List ℕ → ℕ → Type 0
IsMoment text ns =
    (whole : List ℕ) × (part : List ℕ) × (text ≡ whole ++ codes "." ++ part) × IsNumeral 10 whole × IsNumeral 10 part × (length part ≤ 9)
    × (ns ≡ digits_value 10 whole * 10 ^ 9 + digits_value 10 part * 10 ^ (9 - length part))
