-- What is kept beside a seat, and what is known by it of the seat's CPU.
use Rattle.std.specs.Prelude.{◌≡◌, ℕ, ℤ, pos, ◌+ℤ◌, List, ◌∷◌, ◌++◌}
use Rattle.eevdf_queue.specs.declared.entry.Entry.{Entry}
use Rattle.eevdf_ops.specs.{declared.deeds.Answer.Answer, declared.deeds.Line.Line, Machine.queue_at, Programs.deeds_of, Setup.Setup, Setup.homes_of}
use Rattle.eevdf_dozes.specs.{Stretches.Watch, Punctual.NoneStandsPast, Punctual.IsPunctual, OneCpuHistories.machine_by}
use Rattle.eevdf_dozes.specs.OneCpuStretches.{StaysOnCpu, AllCountOn, from_pick}
use Rattle.eevdf_fair_seat.specs.{declared.seat_bound.SeatBound.SeatBound, Turns.BeginsAt, Turns.WasHanded, Turns.picked, Lateness.NoneIsLighter}
use Rattle.eevdf_fleet.specs.Endless.{Seat, HasSeen}

-- in what the seat has seen there is a pick of its CPU, from which on the CPU's lines were handed over
pub record IsBeside (s : Setup) (seat : Seat) (b : SeatBound) : Type 0 where
  pub before : List Line
  pub answer : Answer
  pub lines : List Line
  pub seen : seat.seen ≡ before ++ picked seat.cpu answer ∷ lines
  pub has_seen : HasSeen s seat
  pub handed : WasHanded b seat.cpu answer lines

-- From a pick of the CPU on, and now: where the laws of a CPU have what they ask for, whatever they take for the longest turn, the request
-- of a task that stays there isn't later than a number, where no task was past its deadline by more at first, and none is lighter than one
-- of this nice level.
pub record NoneIsLaterHere (s : Setup) (seat : Seat) (lightest : ℤ) (most : ℕ) : Type 0 where
  pub before : List Line
  pub answer : Answer
  pub lines : List Line
  pub seen : seat.seen ≡ before ++ picked seat.cpu answer ∷ lines
  pub late : (w : Watch) (e f : Entry) → BeginsAt w s seat.cpu before lines
      → StaysOnCpu w (homes_of s) seat.cpu (machine_by s before) (deeds_of lines) e f
      → AllCountOn w (homes_of s) seat.cpu (machine_by s before) (from_pick seat.cpu (deeds_of lines)) → NoneIsLighter w lightest
      → NoneStandsPast w ((e.d +ℤ (queue_at (machine_by s before) seat.cpu).shift) +ℤ pos most) (queue_at (machine_by s before) seat.cpu)
      → IsPunctual w (queue_at (machine_by s seat.seen) seat.cpu) f most
