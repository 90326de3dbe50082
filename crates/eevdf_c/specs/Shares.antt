-- What tasks lack of their shares, as C reads it.
use Rattle.std.specs.Prelude.{ℕ, ◌^◌, nat_lt, ℤ, pos, int_lt, if◌then◌else◌, Option, Some, None}
use Rattle.std.specs.Option.{option_map}
use Rattle.std.specs.FinMap as map
use Rattle.eevdf_weight.specs.Limits.{checked_tick}
use Rattle.eevdf_queue.specs.{declared.entry.Entry.Entry, State.State, Numbers.checked_number}
use Rattle.eevdf_queue.specs.Tick as ticks
use Rattle.eevdf_fair_queue.specs.{declared.share_clock.ShareMark.ShareMark, Beside.SharesView}
use Rattle.eevdf_fair_queue.specs.Beside as beside
use Rattle.eevdf_c.specs.{Codes.absent, Codes.done, Codes.invalid, Codes.out_of_range, Found.found_or}
use Rattle.eevdf_c.specs.PlaceOut.{PlaceOut, in_halves, value}

-- a tick of so many nanoseconds was answered so, and this is the load after it
abbrev pub charged_with : SharesView → ℤ → ℕ → ℕ → SharesView
charged_with s answer ns load = if int_lt answer (pos 0) then s else beside.charged_at s ns load

abbrev pub tick_by : SharesView → State → Option ℕ → SharesView
tick_by s q None = s
tick_by s q (Some ns) = beside.ticked s q ns (ticks.tick q ns).0

-- whoever runs is charged
abbrev pub tick : SharesView → State → ℕ → SharesView
tick s q ns = tick_by s q (checked_tick ns)

-- what is answered of a task: whether it is runnable here, and then whether there is a number
abbrev pub told_code : {A : Type 0} → Option A → ℤ
told_code None = out_of_range
told_code (Some a) = done

abbrev pub runnable_code : {A : Type 0} → Option Entry → Option A → ℤ
runnable_code None o = absent
runnable_code (Some e) o = told_code o

abbrev pub mark_code_by : SharesView → State → Option ℕ → ℤ
mark_code_by s q None = invalid
mark_code_by s q (Some task) = runnable_code (map.get q.runnable task) (beside.mark_beside s q task)

-- what a question for a mark answers
abbrev pub mark_code : SharesView → State → ℕ → ℤ
mark_code s q number = mark_code_by s q (checked_number number)

-- a mark in two halves of 64 bits, and the mark that they make
abbrev pub halves_of : ShareMark → PlaceOut
halves_of m = in_halves m.standing

abbrev pub mark_in : PlaceOut → ShareMark
mark_in p = record { standing = value p }

abbrev pub told_mark_by : SharesView → State → PlaceOut → Option ℕ → PlaceOut
told_mark_by s q other None = other
told_mark_by s q other (Some task) = found_or other (option_map halves_of (beside.mark_beside s q task))

-- what stands afterwards where the mark is to be written
abbrev pub told_mark : SharesView → State → PlaceOut → ℕ → PlaceOut
told_mark s q other number = told_mark_by s q other (checked_number number)

-- nanoseconds that 64 bits with a sign have
abbrev pub checked_time : ℕ → Option ℤ
checked_time n = if nat_lt n (2 ^ 63) then Some (pos n) else None

abbrev pub checked_lack : Option ℕ → Option ℤ
checked_lack None = None
checked_lack (Some n) = checked_time n

abbrev pub lack : SharesView → State → ℕ → PlaceOut → Option ℤ
lack s q task p = checked_lack (beside.lack_beside s q task (mark_in p))

abbrev pub lack_code_by : SharesView → State → PlaceOut → Option ℕ → ℤ
lack_code_by s q p None = invalid
lack_code_by s q p (Some task) = runnable_code (map.get q.runnable task) (lack s q task p)

-- what a question for what a task lacks since a mark answers
abbrev pub lack_code : SharesView → State → ℕ → PlaceOut → ℤ
lack_code s q number p = lack_code_by s q p (checked_number number)

abbrev pub told_lack_by : SharesView → State → PlaceOut → ℤ → Option ℕ → ℤ
told_lack_by s q p other None = other
told_lack_by s q p other (Some task) = found_or other (lack s q task p)

-- what stands afterwards where that is to be written
abbrev pub told_lack : SharesView → State → ℕ → PlaceOut → ℤ → ℤ
told_lack s q number p other = told_lack_by s q p other (checked_number number)
