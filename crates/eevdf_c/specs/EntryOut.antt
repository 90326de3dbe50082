-- An entry as C reads it.
use Rattle.std.specs.Prelude.{ℕ, ℤ, Option, Some, None}
use Rattle.std.specs.Option.{option_map}
use Rattle.std.specs.FinMap as map
use Rattle.eevdf_queue.specs.{declared.entry.Entry.Entry, State.State, Numbers.checked_number}
pub use Rattle.eevdf_c.specs.declared.entry_out.EntryOut.{EntryOut}
use Rattle.eevdf_c.specs.{Codes.invalid, Found.found_code, Found.found_or}

abbrev pub in_numbers : Entry → EntryOut
in_numbers e = record { vruntime = e.v; deadline = e.d; nice = e.nice; slice_ns = e.slice }

abbrev pub entry_by : State → Option ℕ → ℤ
entry_by q None = invalid
entry_by q (Some task) = found_code (map.get q.runnable task)

-- what a question for an entry answers
abbrev pub entry : State → ℕ → ℤ
entry q number = entry_by q (checked_number number)

abbrev pub told_entry_by : State → EntryOut → Option ℕ → EntryOut
told_entry_by q other None = other
told_entry_by q other (Some task) = found_or other (option_map in_numbers (map.get q.runnable task))

-- what stands afterwards where the entry is to be written
abbrev pub told_entry : State → EntryOut → ℕ → EntryOut
told_entry q other number = told_entry_by q other (checked_number number)
