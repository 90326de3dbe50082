-- A wake: a task that sleeps here becomes runnable with the lag that it kept.
use Rattle.std.specs.Prelude.{ℕ, ℤ, ◌-ℤ◌, Option, Some, None}
use Rattle.std.specs.Int.{int_max}
use Rattle.std.specs.FinMap as map
use Rattle.eevdf_queue.specs.{declared.answers.WakeAnswer.WakeAnswer, declared.entry.Entry.Entry, State.State, State.Sleeper}
use Rattle.eevdf_queue.specs.{Moves.fresh_entry, Moves.entry_in_range, Moves.with_runnable, Placing.placement}
use Rattle.eevdf_queue.specs.declared.answers.WakeAnswer.TheVariants.{Woken, Awake, Range}

-- the virtual runtime that a woken task gets: its placement, and where it dozes the later of that and its place
abbrev pub waking_runtime : State → Sleeper → Option ℤ → ℤ
waking_runtime q s None = placement q s
waking_runtime q s (Some place) = int_max (place -ℤ q.shift) (placement q s)

-- the entry that it gets; none where that is out of range
abbrev pub waking_entry : State → Sleeper → Option ℤ → Option Entry
waking_entry q s place = entry_in_range (fresh_entry (waking_runtime q s place) s.nice s.slice)

-- the task has joined, if it could be placed, and sleeps no more
abbrev pub wake_to : State → ℕ → Option State → WakeAnswer × State
wake_to q task None = (Range, q)
wake_to q task (Some joined) = (Woken, record joined { asleep = map.remove q.asleep task; places = map.remove q.places task })

abbrev pub wake_sleeper : State → ℕ → Option Sleeper → WakeAnswer × State
wake_sleeper q task None = (Awake, q)
wake_sleeper q task (Some s) = wake_to q task (with_runnable q task (waking_entry q s (map.get q.places task)))

-- the deed: what is answered, and the state afterwards
abbrev pub wake : State → ℕ → WakeAnswer × State
wake q task = wake_sleeper q task (map.get q.asleep task)
