-- What a program asks of its CPU's seat, and what the seat has when the program has run.
use Rattle.std.specs.Prelude.{◌≡◌, ◌≤◌, ◌<◌, ◌+◌, ℕ, List, [], ◌∷◌, ◌++◌, length, max, slice_get, Some}
use Rattle.std.specs.{List.sum_by, Option.option_to_list}
use Rattle.eevdf_ops.specs.{declared.deeds.Op.Op, declared.deeds.Line.Line, Followed.program_of, OwnRequests.AllFitWaiting}
use Rattle.eevdf_ops.specs.OwnRequests.{own_waiting}
use Rattle.eevdf_ops.specs.declared.deeds.Op.TheVariants.{Post, Drain}
use Rattle.eevdf_ops.specs.Programs.{FitsOperation, FitsProgram, deeds_of, post_of, posts_in, wakes_from}
use Rattle.eevdf_ops.specs.Setup.{Setup, cpus_of, homes_of}
use Rattle.eevdf_fleet.specs.{Drains.oldest_own, Fleets.Seat, Fleets.posted_to}

-- the room for lines that an operation asks for, of so many CPUs
abbrev pub room_for : ℕ → Op → ℕ
room_for cpus (Post task) = 0
room_for cpus Drain = cpus
room_for cpus other = 1

abbrev pub program_room : ℕ → List Op → ℕ
program_room cpus ops = sum_by (room_for cpus) ops

-- how many requests an operation posts
abbrev pub posts_of : Op → ℕ
posts_of (Post task) = 1
posts_of other = 0

abbrev pub program_posts : List Op → ℕ
program_posts ops = sum_by posts_of ops

-- the greatest of what the programs ask for, at least 1
abbrev pub greatest : (List Op → ℕ) → List (List Op) → ℕ
greatest asked [] = 1
greatest asked (ops ∷ programs) = max (asked ops) (greatest asked programs)

-- the quota and the capacity of rings that no program goes past
abbrev pub quota_for : Setup → ℕ
quota_for s = greatest (program_room (cpus_of s)) s.programs

abbrev pub rings_for : Setup → ℕ
rings_for s = greatest program_posts s.programs

-- of the requests that a seat has posted to its own CPU, a drain has taken the oldest, if there was one
abbrev pub TakesOldest : Seat → List Line → Op → Type 0
TakesOldest before lines Drain = wakes_from before.cpu lines ≡ option_to_list (oldest_own before)
TakesOldest before lines other = Unit {0}

-- one operation was done on a seat
pub record HasOperated (s : Setup) (op : Op) (before after : Seat) : Type 0 where
  pub lines : List Line
  pub cpu : after.cpu ≡ before.cpu
  pub log : after.log ≡ before.log ++ lines
  pub fits : FitsOperation before.cpu (deeds_of lines) op
  pub takes : TakesOldest before lines op
  pub posts : (home : ℕ) → home < cpus_of s → posted_to after home ≡ posted_to before home ++ post_of (homes_of s) home op
  pub room : before.room ≤ after.room + room_for (cpus_of s) op

-- these operations were done on the seat of a CPU, and nothing else; what the seat has posted to its own CPU is what its drains
-- have taken and then what waits
pub record HasRun (s : Setup) (cpu : ℕ) (ops : List Op) (seat : Seat) : Type 0 where
  pub own : seat.cpu ≡ cpu
  pub operations : FitsProgram cpu seat.log ops
  pub takes : AllFitWaiting (homes_of s) cpu [] (deeds_of seat.log) ops
  pub waits : posted_to seat cpu ≡ wakes_from cpu seat.log ++ own_waiting (homes_of s) cpu [] ops
  pub posts : (home : ℕ) → home < cpus_of s → posted_to seat home ≡ posts_in (homes_of s) home ops

-- on each CPU's seat its program was run
pub record AreRun (s : Setup) (seats : List Seat) : Type 0 where
  pub all : length seats ≡ cpus_of s
  pub each : (cpu : ℕ) (seat : Seat) → slice_get seats cpu ≡ Some seat → HasRun s cpu (program_of s cpu) seat
