-- How late the requests of a CPU can be, by the longest of its turns.
use Rattle.std.specs.Prelude.{◌≡◌, ℕ, ◌≤◌, ℤ, pos, ◌+ℤ◌, true, List, ◌∷◌, ◌++◌, Option}
use Rattle.std.specs.{Option.option_map}
use Rattle.eevdf_weight.specs.{Weight.weight_of, Charge.charge_of}
use Rattle.eevdf_queue.specs.{declared.entry.Entry.Entry}
use Rattle.eevdf_ops.specs.{declared.deeds.Answer.Answer, declared.deeds.Line.Line, Machine.queue_at}
use Rattle.eevdf_ops.specs.{Programs.deeds_of, Setup.Setup, Setup.homes_of}
use Rattle.eevdf_dozes.specs.{Stretches.Watch, Punctual.NoneStandsPast, Punctual.IsPunctual, OneCpuHistories.machine_by}
use Rattle.eevdf_dozes.specs.OneCpuStretches.{StaysOnCpu, AllCountOn, from_pick}
use Rattle.eevdf_fair_seat.specs.declared.seat_bound.SeatBound.{SeatBound}
use Rattle.eevdf_fair_seat.specs.Turns.{BeginsAt, WasHanded, longest_turn, picked}

-- what a task of the nice level is charged for the longest turn
abbrev pub lateness_bound : SeatBound → ℤ → Option ℕ
lateness_bound b lightest = option_map (λ ns. charge_of ns (weight_of lightest)) (longest_turn b)

-- no task that counts is lighter than one of this nice level
abbrev pub NoneIsLighter : Watch → ℤ → Type 0
NoneIsLighter w lightest = (t : ℕ) → w.counts t ≡ true → weight_of lightest ≤ weight_of (w.nice_of t)

-- The request of a task that stays on the CPU from a pick on, and all whose runnable tasks count, is never later than a number, where no task
-- that counts stood past its deadline by more at first; nor does any task that counts ever stand past its deadline by more.
abbrev pub NoneIsLater : SeatBound → ℤ → ℕ → Type 0
NoneIsLater b lightest most =
    (w : Watch) (s : Setup) (cpu : ℕ) (before : List Line) (answer : Answer) (lines : List Line) (e f : Entry)
    → WasHanded b cpu answer lines → BeginsAt w s cpu before lines
    → StaysOnCpu w (homes_of s) cpu (machine_by s before) (deeds_of lines) e f
    → AllCountOn w (homes_of s) cpu (machine_by s before) (from_pick cpu (deeds_of lines)) → NoneIsLighter w lightest
    → NoneStandsPast w ((e.d +ℤ (queue_at (machine_by s before) cpu).shift) +ℤ pos most) (queue_at (machine_by s before) cpu)
    → IsPunctual w (queue_at (machine_by s (before ++ picked cpu answer ∷ lines)) cpu) f most
