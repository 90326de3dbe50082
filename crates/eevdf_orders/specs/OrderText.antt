-- The text of a workload with its order.
use Rattle.std.specs.Prelude.{ℕ, ◌+◌, ◌%◌, ◌==◌, ◌&&◌, List, [], ◌∷◌, ◌++◌, codes, decimal, take, drop, if◌then◌else◌, slice_index}

-- how long the byte order mark is with which a text begins, or 0
abbrev pub mark_length : List ℕ → ℕ
mark_length text =
    if (slice_index text 0 == 0xEF && slice_index text 1 == 0xBB) && slice_index text 2 == 0xBF then 3 else 0

-- what stands before the number at a place: 32 places are on a line
abbrev pub gap : ℕ → List ℕ
gap at = if at % 32 == 0 then codes "\n" else codes " "

abbrev pub place_text : ℕ → ℕ → List ℕ
place_text at caller = gap at ++ decimal caller ++ codes ","

-- the places of an order, counted from a number on
abbrev pub places_text : ℕ → List ℕ → List ℕ
places_text at [] = []
places_text at (caller ∷ order) = place_text at caller ++ places_text (at + 1) order

abbrev pub order_text : List ℕ → List ℕ
order_text order = codes "order = [" ++ places_text 0 order ++ codes "\n]\n"

-- a workload with an order as its first key, behind a byte order mark
abbrev pub ordered_text : List ℕ → List ℕ → List ℕ
ordered_text order workload =
    take (mark_length workload) workload ++ order_text order ++ drop (mark_length workload) workload
