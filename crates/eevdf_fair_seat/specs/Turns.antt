-- What is kept of a CPU's turns, by the deeds of that CPU, and what the laws of a CPU have of it.
use Rattle.std.specs.Prelude.{◌≡◌, ℕ, ◌+◌, ◌-◌, ◌^◌, nat_lt, if◌then◌else◌, List, [], ◌∷◌, ◌++◌, max, min, Option, Some, None}
use Rattle.eevdf_ops.specs.{declared.deeds.Answer.Answer, declared.deeds.Deed.Deed, declared.deeds.Line.Line}
use Rattle.eevdf_ops.specs.declared.deeds.Deed.TheVariants.{Tick, Pick}
use Rattle.eevdf_ops.specs.{Programs.deeds_of, Programs.lines_by, Parts.decider, Setup.Setup, Setup.homes_of}
use Rattle.eevdf_dozes.specs.{Stretches.Watch, OneCpuHistories.machine_by, OneCpuStretches.BeginsOnCpu}
use Rattle.eevdf_fair_seat.specs.declared.seat_bound.SeatBound.{SeatBound}

abbrev pub fresh : SeatBound
fresh = record { turn = 0; longest = 0 }

-- the greatest number of 64 bits, which says that a turn is as long or longer
abbrev pub most_ns : ℕ
most_ns = 2 ^ 64 - 1

-- the turn that goes on is longer
abbrev pub grown_to : SeatBound → ℕ → SeatBound
grown_to b turn = record { turn = turn; longest = max b.longest turn }

abbrev pub grown : SeatBound → ℕ → SeatBound
grown b ns = grown_to b (min (b.turn + ns) most_ns)

-- a deed of the CPU was done
abbrev pub after : SeatBound → Deed → SeatBound
after b (Tick cpu ns) = grown b ns
after b (Pick cpu) = record b { turn = 0 }
after b deed = b

-- and deeds of it one after the other, as lines tell
abbrev pub handed : SeatBound → List Line → SeatBound
handed b [] = b
handed b (line ∷ lines) = handed (after b line.deed) lines

abbrev pub longest_turn : SeatBound → Option ℕ
longest_turn b = if nat_lt b.longest most_ns then Some b.longest else None

-- ---- of a CPU of a fleet
abbrev pub picked : ℕ → Answer → Line
picked cpu answer = record { deed = Pick cpu; answer = answer }

-- A pick of this CPU and then those of these lines that are the CPU's were handed over, to what there was before it, whatever that was
pub record WasHanded (b : SeatBound) (cpu : ℕ) (answer : Answer) (lines : List Line) : Type 0 where
  pub earlier : SeatBound
  pub handed : b ≡ handed earlier (picked cpu answer ∷ lines_by cpu lines)

-- so it is where the pick alone was handed over, and where lines of other CPUs and then one more of this CPU have come
abbrev pub BeginsAnew : Deed → SeatBound → Type 0
BeginsAnew deed b = (cpu : ℕ) (answer : Answer) → deed ≡ Pick cpu → WasHanded b cpu answer []

abbrev pub GoesOn : SeatBound → Deed → SeatBound → Type 0
GoesOn b deed c =
    (cpu : ℕ) (first answer : Answer) (lines others : List Line) → WasHanded b cpu first lines → lines_by cpu others ≡ [] → decider deed ≡ cpu
    → WasHanded c cpu first (lines ++ (others ++ record { deed = deed; answer = answer } ∷ []))

-- What the laws of a CPU ask of a history in which the pick stands after some lines and before others, as in what a seat has seen. For how
-- long a turn may be the watch has any number.
abbrev pub BeginsAt : Watch → Setup → ℕ → List Line → List Line → Type 0
BeginsAt w s cpu before lines = BeginsOnCpu w (homes_of s) cpu (machine_by s before) (deeds_of lines)

-- so the laws hold with turns of this length
abbrev pub TurnsAreNoLonger : SeatBound → ℕ → Type 0
TurnsAreNoLonger b ns =
    (w : Watch) (s : Setup) (cpu : ℕ) (before : List Line) (answer : Answer) (lines : List Line) → WasHanded b cpu answer lines
    → BeginsAt w s cpu before lines → BeginsAt (record w { turn = ns }) s cpu before lines
