-- What a nice level weighs: the table of the Linux kernel.
use Rattle.std.specs.Prelude.{ℕ, ◌+◌, ◌-◌, ℤ, pos, negsuc, List, [], ◌∷◌, slice_index_or}

-- from nice level -20 on, five to a line
unfoldable pub weights : List ℕ
weights =
    88761 ∷ 71755 ∷ 56483 ∷ 46273 ∷ 36291 ∷
    29154 ∷ 23254 ∷ 18705 ∷ 14949 ∷ 11916 ∷
    9548 ∷ 7620 ∷ 6100 ∷ 4904 ∷ 3906 ∷
    3121 ∷ 2501 ∷ 1991 ∷ 1586 ∷ 1277 ∷
    1024 ∷ 820 ∷ 655 ∷ 526 ∷ 423 ∷
    335 ∷ 272 ∷ 215 ∷ 172 ∷ 137 ∷
    110 ∷ 87 ∷ 70 ∷ 56 ∷ 45 ∷
    36 ∷ 29 ∷ 23 ∷ 18 ∷ 15 ∷ []

-- the place of a level in the table; a number below all levels has the first place
abbrev pub place_of : ℤ → ℕ
place_of (pos n) = 20 + n
place_of (negsuc n) = 19 - n

-- the weight of a level; a number above all levels has the last weight
unfoldable pub weight_of : ℤ → ℕ
weight_of level = slice_index_or weights (place_of level) 15
