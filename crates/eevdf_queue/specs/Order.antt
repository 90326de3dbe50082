-- The order in which tasks are picked.
use Rattle.std.specs.Prelude.{ℕ, nat_lt, Bool, ◌&&◌, ◌||◌, int_lt, not, List, [], ◌∷◌, if◌then◌else◌, Option, Some, None}
use Rattle.eevdf_queue.specs.declared.entry.Entry.{Entry}

-- earlier deadline first, then lower number
abbrev pub is_before : ℕ × Entry → ℕ × Entry → Bool
is_before a b = int_lt a.1.d b.1.d || (not (int_lt b.1.d a.1.d) && nat_lt a.0 b.0)

abbrev pub earlier : ℕ × Entry → Option (ℕ × Entry) → ℕ × Entry
earlier a None = a
earlier a (Some b) = if is_before b a then b else a

-- the first by that order of the tasks that pass a test
abbrev pub earliest : (Entry → Bool) → List (ℕ × Entry) → Option (ℕ × Entry)
earliest passes [] = None
earliest passes (a ∷ es) = if passes a.1 then Some (earlier a (earliest passes es)) else earliest passes es
