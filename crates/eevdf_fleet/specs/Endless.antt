-- What contracts see of a fleet that keeps no history.
use Rattle.std.specs.Prelude.{◌≡◌, ℕ, ◌+◌, ◌*◌, ◌<◌, ◌≤◌, true, List, [], ◌∷◌, ◌++◌, ◌⊎◌, All, length, map, replicate, slice_get, slice_index_or, slice_set, Some}
use Rattle.std.specs.{List.filter, List.list_all, List.range_with_len, Option.option_to_list}
use mathlib.Core.List.{IsPrefix}
use Rattle.eevdf_queue.specs.State as states
use Rattle.eevdf_ops.specs.{declared.deeds.Answer.Answer, declared.deeds.Deed.Deed, declared.deeds.Line.Line}
use Rattle.eevdf_ops.specs.{Histories.AreHistory, Histories.machine_told, Machine.Machine, Machine.queue_at, Machine.start, Places.IsPlaced}
use Rattle.eevdf_ops.specs.Programs.{AreWakes, deeds_of, lines_by, wakes_from}
use Rattle.eevdf_ops.specs.Setup.{Setup, allows, cpus_of, homes_of}
use Rattle.eevdf_fleet.specs.{declared.drains.Drained.Drained, declared.wake_list.DrainedWake.DrainedWake}
use Rattle.eevdf_fleet.specs.Drains.{is_woken, line_of}
use Rattle.eevdf_fleet.specs.Fleets.{IsNoLess, Kit, Parts, capacity_of, free_at, setup_of}
use Rattle.eevdf_fleet.specs.Rings.{Posted, given_to, left_of}

-- a seat: its CPU, the lines of its operations in order, the first lines of the history, as far as the seat knows them, the
-- tasks that it has posted, by homes, and how many requests more certainly fit into the ring to each home
pub record Seat : Type 0 where
  pub cpu : ℕ
  pub log : List Line
  pub seen : List Line
  pub posted : List (List ℕ)
  pub free : List ℕ

abbrev pub seat_of_parts : Parts → Seat
seat_of_parts p = record { cpu = p.seat.cpu; log = p.seat.log; seen = p.seen; posted = p.seat.posted; free = p.free }

abbrev pub posted_to : Seat → ℕ → List ℕ
posted_to s home = slice_index_or s.posted home []

-- the seat of a CPU before anything is done, and the seats of all CPUs, in order
abbrev pub fresh : Kit → ℕ → Seat
fresh k cpu = record { cpu = cpu; log = []; seen = []; posted = replicate (cpus_of (setup_of k)) []; free = replicate (cpus_of (setup_of k)) (capacity_of k) }

abbrev pub fresh_seats : Kit → List Seat
fresh_seats k = map (fresh k) (range_with_len 0 (cpus_of (setup_of k)))

-- the seats of all CPUs, in order
pub record AreSeats (cpus : ℕ) (seats : List Seat) : Type 0 where
  pub all : length seats ≡ cpus
  pub in_order : (cpu : ℕ) (s : Seat) → slice_get seats cpu ≡ Some s → s.cpu ≡ cpu

-- the machine that lines leave
abbrev pub told_by : Setup → List Line → Machine
told_by s lines = machine_told (homes_of s) (start s) lines

-- lines are what one thread comes to that does their deeds one after the other, each at once, from the setup's start on: each
-- answer is the one that the machine so far gives, each deed is allowed, and every task is in one place
pub record IsOneThread (s : Setup) (lines : List Line) : Type 0 where
  pub history : AreHistory (homes_of s) (start s) lines
  pub allowed : list_all (allows s) (deeds_of lines) ≡ true
  pub places : IsPlaced (homes_of s) (told_by s lines)

-- what a seat has seen is such a history, and has the seat's lines as those of its CPU, no other and no more
pub record HasSeen (s : Setup) (seat : Seat) : Type 0 where
  pub one_thread : IsOneThread s seat.seen
  pub own : lines_by seat.cpu seat.seen ≡ seat.log

-- a seat has done a deed: what it has seen goes on by lines of other CPUs, and then by this deed with this answer
pub record HasDone (s : Setup) (deed : Deed) (answer : Answer) (before after : Seat) : Type 0 where
  pub others : List Line
  pub cpu : after.cpu ≡ before.cpu
  pub log : after.log ≡ before.log ++ record { deed = deed; answer = answer } ∷ []
  pub seen : after.seen ≡ before.seen ++ (others ++ record { deed = deed; answer = answer } ∷ [])
  pub posted : after.posted ≡ before.posted
  pub free : after.free ≡ before.free
  pub has_seen : HasSeen s after

-- a drain has given a seat these lines: wakes on its CPU, asked for by CPUs that strictly ascend, so at most one of each; of the
-- seat's own requests it has taken the oldest that no line tells of, if there was one
pub record HasDrained (s : Setup) (drained : Drained) (before after : Seat) : Type 0 where
  pub lines : List Line
  pub cpu : after.cpu ≡ before.cpu
  pub log : after.log ≡ before.log ++ lines
  pub wakes : AreWakes before.cpu 0 (deeds_of lines)
  pub taken : drained.taken ≡ length lines
  pub woken : drained.woken ≡ length (filter (λ (l : Line). is_woken l.answer) lines)
  pub own : wakes_from before.cpu lines ≡ option_to_list (slice_get (posted_to before before.cpu) (length (wakes_from before.cpu before.log)))
  pub seen : IsPrefix before.seen after.seen
  pub posted : after.posted ≡ before.posted
  pub free : IsNoLess before.free after.free
  pub has_seen : HasSeen s after

-- a list has got these wakes, and the seat's log their lines
pub record AreListed (before after : Seat) (list list_after : List DrainedWake) : Type 0 where
  pub wakes : List DrainedWake
  pub pushed : list_after ≡ list ++ wakes
  pub lines : after.log ≡ before.log ++ map (line_of before.cpu) wakes

-- a seat has posted a request, which fills one place in the ring to the home
pub record HasPosted (home task : ℕ) (before after : Seat) : Type 0 where
  pub cpu : after.cpu ≡ before.cpu
  pub log : after.log ≡ before.log
  pub seen : after.seen ≡ before.seen
  pub posted : after.posted ≡ slice_set before.posted home (posted_to before home ++ task ∷ [])
  pub others : after.free ≡ slice_set before.free home (free_at after.free home)
  pub free : free_at before.free home ≤ free_at after.free home + 1

-- it may be known that more is free, and nothing else has changed
pub record HasFound (before after : Seat) : Type 0 where
  pub cpu : after.cpu ≡ before.cpu
  pub log : after.log ≡ before.log
  pub seen : after.seen ≡ before.seen
  pub posted : after.posted ≡ before.posted
  pub free : IsNoLess before.free after.free

-- a seat has seen more, and nothing else has changed
pub record HasSeenMore (s : Setup) (before after : Seat) : Type 0 where
  pub cpu : after.cpu ≡ before.cpu
  pub log : after.log ≡ before.log
  pub seen : IsPrefix before.seen after.seen
  pub posted : after.posted ≡ before.posted
  pub free : after.free ≡ before.free
  pub has_seen : HasSeen s after

-- lines end with this one: after some that were seen before, and others
abbrev pub EndsWith : List Line → Line → Type 0
EndsWith lines line = (before others : List Line) × (lines ≡ before ++ (others ++ line ∷ []))

-- a line that is told, and what was seen when it was done
pub record SeenLine : Type 0 where
  pub line : Line
  pub seen : List Line

-- a queue was shown that is in the state in which these lines leave that of a CPU, and `Gives` holds of it
pub record HasShown (s : Setup) (lines : List Line) (cpu : ℕ) (Gives : states.View → Type 0) : Type 0 where
  pub queue : states.View
  pub state : queue_at (told_by s lines) cpu ≡ queue.state
  pub gives : Gives queue

-- what was seen at two moments is of one history: one of the two begins the other, and the longer is what one thread comes to
pub record Agree (s : Setup) (seen other : List Line) : Type 0 where
  pub lines : List Line
  pub one_thread : IsOneThread s lines
  pub begins : IsPrefix seen lines
  pub other_begins : IsPrefix other lines
  pub longer : (lines ≡ seen) ⊎ (lines ≡ other)

-- what a CPU had posted at some moment and what was seen at another are of one history: for each home, the wakes that the CPU asked for
-- among the home's lines are a beginning of what it had posted to the home, or the other way about
abbrev pub AgreeOnPosts : List Line → Posted → Type 0
AgreeOnPosts seen posted = (home : ℕ) → IsPrefix (wakes_from posted.sender (lines_by home seen)) (given_to posted home) ⊎ IsPrefix (given_to posted home) (wakes_from posted.sender (lines_by home seen))

-- the wakes that a seat asked for, as lines tell, are requests that it has posted: for each home a beginning of these
abbrev pub HasAskedFor : Seat → List Line → Type 0
HasAskedFor seat lines = (home : ℕ) → IsPrefix (wakes_from seat.cpu (lines_by home lines)) (posted_to seat home)

-- what seats have posted to a home is the wakes that they asked for among the home's lines, whatever their answers, and then what is
-- left; of `n` CPUs the list from sender `q` to home `c` stands at place `q * n + c`
abbrev pub AllPostsTold : ℕ → List Seat → List Line → List (List ℕ) → Type 0
AllPostsTold cpus seats lines left = (sender home : ℕ) (s : Seat) → slice_get seats sender ≡ Some s → home < cpus
    → posted_to s home ≡ wakes_from sender (lines_by home lines) ++ left_of cpus left sender home

-- all seats are of one history: each has the lines of its CPU, and has seen the first ones; it leaves this machine, and these requests
pub record AreOfOneHistory (s : Setup) (seats : List Seat) (queues : Machine) (left : List (List ℕ)) : Type 0 where
  pub lines : List Line
  pub one_thread : IsOneThread s lines
  pub logs : All (λ (seat : Seat). lines_by seat.cpu lines ≡ seat.log) seats
  pub seen : All (λ (seat : Seat). IsPrefix seat.seen lines) seats
  pub machine : queues ≡ told_by s lines
  pub posts : AllPostsTold (cpus_of s) seats lines left
  pub each : length left ≡ cpus_of s * cpus_of s
