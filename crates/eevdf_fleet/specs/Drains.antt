-- What a drain does to a seat.
use Rattle.std.specs.Prelude.{◌≡◌, ◌≢◌, ℕ, ◌+◌, ◌-◌, Bool, true, false, List, ◌++◌, length, map, slice_get, if◌then◌else◌, Option, Some}
use Rattle.std.specs.{List.filter, Option.option_to_list}
use mathlib.Core.List.{IsPrefix}
use Rattle.eevdf_ops.specs.{declared.deeds.Answer.Answer, declared.deeds.Answer.TheVariants.Woken}
use Rattle.eevdf_ops.specs.{declared.deeds.Deed.TheVariants.Wake, declared.deeds.Line.Line}
use Rattle.eevdf_ops.specs.Programs.{AreWakes, deeds_of, wakes_from}
use Rattle.eevdf_queue.specs.{State.State, Pick.pick_of}
use Rattle.eevdf_fleet.specs.{declared.drains.Drained.Drained, declared.wake_list.DrainedWake.DrainedWake}
use Rattle.eevdf_fleet.specs.Fleets.{IsNoLess, Parts, Seat, logged, posted_to}

-- the oldest request that a seat posted to its own CPU and that wasn't taken yet
abbrev pub oldest_own : Seat → Option ℕ
oldest_own s = slice_get (posted_to s s.cpu) (length (wakes_from s.cpu s.log))

-- the line of a wake on a CPU
abbrev pub line_of : ℕ → DrainedWake → Line
line_of cpu wake = record { deed = Wake cpu wake.task wake.sender; answer = wake.answer }

-- a seat has taken a request of a sender: of its own the oldest
pub record HasTaken (before after : Seat) (sender : ℕ) (wake : DrainedWake) : Type 0 where
  pub sender_is : wake.sender ≡ sender
  pub seat : after ≡ logged before (line_of before.cpu wake)
  pub own : sender ≡ before.cpu → oldest_own before ≡ Some wake.task

-- the seat with these lines more
abbrev pub logged_all : Seat → List Line → Seat
logged_all s lines = record s { log = s.log ++ lines; room = s.room - length lines }

abbrev pub is_woken : Answer → Bool
is_woken Woken = true
is_woken other = false

abbrev pub counted : Drained → Answer → Drained
counted d answer = record { taken = d.taken + 1; woken = d.woken + (if is_woken answer then 1 else 0) }

-- a drain has given a seat these lines: wakes on its CPU, asked for by CPUs that strictly ascend, so at most one of each;
-- of the seat's own requests it has taken the oldest, if there was one
pub record HasDrained (before after : Seat) (drained : Drained) : Type 0 where
  pub lines : List Line
  pub seat : after ≡ logged_all before lines
  pub wakes : AreWakes before.cpu 0 (deeds_of lines)
  pub taken : drained.taken ≡ length lines
  pub woken : drained.woken ≡ length (filter (λ (l : Line). is_woken l.answer) lines)
  pub own : wakes_from before.cpu lines ≡ option_to_list (oldest_own before)

-- the same of a seat's parts, which may have seen more of the history since
pub record PartsTaken (before after : Parts) (sender : ℕ) (wake : DrainedWake) : Type 0 where
  pub taken : HasTaken before.seat after.seat sender wake
  pub seen : IsPrefix before.seen after.seen
  pub free : IsNoLess before.free after.free

pub record ArePartsDrained (before after : Parts) (drained : Drained) : Type 0 where
  pub does : HasDrained before.seat after.seat drained
  pub seen : IsPrefix before.seen after.seen
  pub free : IsNoLess before.free after.free

-- the lines that a seat has got tell of wakes of which this holds, in order
pub record AreTakenBy (Holds : List DrainedWake → Type 0) (before after : Seat) : Type 0 where
  pub wakes : List DrainedWake
  pub holds : Holds wakes
  pub lines : after.log ≡ before.log ++ map (line_of before.cpu) wakes

-- they tell of the wakes that a list has got
abbrev pub AreListed : Seat → Seat → List DrainedWake → List DrainedWake → Type 0
AreListed before after list list_after = AreTakenBy (λ wakes. list_after ≡ list ++ wakes) before after

-- a pick would let another task run than the one that runs, or one where nobody runs
abbrev pub IsPickedAnew : State → Type 0
IsPickedAnew q = pick_of q.runnable ≢ q.running
