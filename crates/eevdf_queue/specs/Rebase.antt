-- All virtual times of a queue lowered by one number, so that its virtual time is 0.
use Rattle.std.specs.Prelude.{ℕ, ℤ, pos, ◌^◌, ◌+ℤ◌, ◌-ℤ◌, nat_le, unsigned_abs, Bool, true, ◌&&◌, List, [], ◌∷◌, Option, Some, None, if◌then◌else◌}
use Rattle.std.specs.FinMap as map
use Rattle.eevdf_queue.specs.{declared.entry.Entry.Entry, State.State, Sums.Tasks, Sums.virtual_time, Moves.is_entry_in_range}

-- an entry with its virtual runtime and its deadline lower by a number
abbrev pub lowered_entry : ℤ → Entry → Entry
lowered_entry by e = record e { v = e.v -ℤ by; d = e.d -ℤ by }

abbrev pub lowered_entries : ℤ → List (ℕ × Entry) → List (ℕ × Entry)
lowered_entries by [] = []
lowered_entries by (e ∷ es) = (e.0, lowered_entry by e.1) ∷ lowered_entries by es

-- runnable tasks, all lower by a number
abbrev pub lowered_tasks : ℤ → Tasks → Tasks
lowered_tasks by tasks = map.from_entries (lowered_entries by (map.entries tasks))

abbrev pub are_entries_in_range : List (ℕ × Entry) → Bool
are_entries_in_range [] = true
are_entries_in_range (e ∷ es) = is_entry_in_range e.1 && are_entries_in_range es

-- whether all stay in range
abbrev pub can_lower : ℤ → Tasks → Bool
can_lower by tasks = are_entries_in_range (lowered_entries by (map.entries tasks))

-- whether a number may be a queue's shift: a rebase for each nanosecond of thirty-six years stays below the limit
abbrev pub is_shift : ℤ → Bool
is_shift z = nat_le (unsigned_abs z) (2 ^ 120)

abbrev pub checked_shift : ℤ → Option ℤ
checked_shift z = if is_shift z then Some z else None

-- whether the virtual time of a queue can be made 0
abbrev pub can_rebase : State → Bool
can_rebase q = is_shift (q.shift +ℤ virtual_time q) && can_lower (virtual_time q) q.runnable

abbrev pub rebased : State → State
rebased q = record q { runnable = lowered_tasks (virtual_time q) q.runnable; base = pos 0; shift = q.shift +ℤ virtual_time q }

-- the deed: the number by which all is lower, and the queue afterwards
abbrev pub rebase : State → ℤ × State
rebase q = if can_rebase q then (virtual_time q, rebased q) else (pos 0, q)
