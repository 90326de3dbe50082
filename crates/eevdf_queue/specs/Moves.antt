-- How a task comes into a queue.
use Rattle.std.specs.Prelude.{ℕ, ℤ, pos, ◌+ℤ◌, Bool, ◌&&◌, if◌then◌else◌, Option, Some, None}
use Rattle.std.specs.FinMap as map
use Rattle.eevdf_weight.specs.{Limits.is_in_range, Weight.weight_of, Charge.charge_of}
use Rattle.eevdf_queue.specs.declared.entry.Entry.{Entry}
use Rattle.eevdf_queue.specs.State.{State, Sleeper, Contents}

-- what one request of a task is charged
abbrev pub request_of : ℤ → ℕ → ℕ
request_of nice slice = charge_of slice (weight_of nice)

-- a task at a virtual runtime, with a fresh request
abbrev pub fresh_entry : ℤ → ℤ → ℕ → Entry
fresh_entry v nice slice = record { v = v; d = v +ℤ pos (request_of nice slice); nice = nice; slice = slice }

abbrev pub is_entry_in_range : Entry → Bool
is_entry_in_range e = is_in_range e.v && is_in_range e.d

-- an entry, where its virtual runtime and deadline are in range
abbrev pub entry_in_range : Entry → Option Entry
entry_in_range e = if is_entry_in_range e then Some e else None

abbrev pub with_runnable : State → ℕ → Option Entry → Option State
with_runnable q task None = None
with_runnable q task (Some e) = Some (record q { runnable = map.insert q.runnable task e })

-- a task becomes runnable at its start; none where that is out of range
abbrev pub admit : State → Contents → Option State
admit q p = with_runnable q p.task (entry_in_range (fresh_entry p.start p.nice p.slice))

abbrev pub sleeper_of : Contents → Sleeper
sleeper_of p = record { lag = p.lag; nice = p.nice; slice = p.slice }

-- a task falls asleep with its lag
abbrev pub put_asleep : State → Contents → State
put_asleep q p = record q { asleep = map.insert q.asleep p.task (sleeper_of p) }
