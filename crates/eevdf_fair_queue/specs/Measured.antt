-- How far the runnable tasks of a queue are past one another's deadlines, as it stands.
use Rattle.std.specs.Prelude.{ℕ, ◌^◌, ℤ, pos, neg_ℤ, ◌-ℤ◌, Option, Some, None}
use Rattle.std.specs.{Int.int_max, Int.int_min, FinMap.entries, List.fold}
use Rattle.eevdf_queue.specs.{declared.entry.Entry.Entry, State.State, Sums.Tasks}
use Rattle.eevdf_fair_queue.specs.{declared.bounds.Bounds.Bounds, declared.bounds.Mark.Mark, Bounds.held}

-- a virtual runtime and a deadline beside those of one task more: the later one and the earlier one
abbrev pub beside : Option Mark → ℕ × Entry → Option Mark
beside None task = Some (record { v = task.1.v; d = task.1.d })
beside (Some m) task = Some (record { v = int_max m.v task.1.v; d = int_min m.d task.1.d })

-- the latest virtual runtime of all, and the earliest deadline
abbrev pub extremes : Tasks → Option Mark
extremes tasks = fold beside None (entries tasks)

abbrev pub past_by : Option Mark → ℤ
past_by None = pos 0
past_by (Some m) = int_max (pos 0) (held (m.v -ℤ m.d))

abbrev pub furthest_of : Option Mark → ℤ
furthest_of None = neg_ℤ (pos (2 ^ 63))
furthest_of (Some m) = m.v

-- there is no front; no task is further than the latest virtual runtime, and none past another's deadline by more than that is past the
-- earliest; a turn goes on as it did
abbrev pub within : Bounds → Option Mark → Bounds
within b o = record b { front = neg_ℤ (pos (2 ^ 63)); furthest = furthest_of o; longest = past_by o }

-- the bounds of a queue as it stands
abbrev pub measured : Bounds → State → Bounds
measured b q = within b (extremes q.runnable)
