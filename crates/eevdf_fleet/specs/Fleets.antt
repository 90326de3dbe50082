-- What contracts see of a fleet.
use Rattle.std.specs.Prelude.{◌≡◌, ℕ, ◌+◌, ◌-◌, ◌*◌, ◌<◌, ◌≤◌, List, [], ◌∷◌, ◌++◌, length, map, replicate, slice_get, slice_index_or, slice_set, Option, Some, None, IfSome, Result, MatchResult, vec_capacity}
use Rattle.std.specs.{declared.alloc.Global.Global, declared.vec.Vec.Vec, List.range_with_len}
use Rattle.atomic_table.specs.Seated.{TableId}
use Rattle.eevdf_queue.specs.State as states
use Rattle.eevdf_ops.specs.{declared.deeds.Answer.Answer, declared.deeds.Deed.Deed, declared.deeds.Line.Line, Places.AreCpus, Programs.lines_by, Programs.wakes_from, Setup.Setup, Setup.cpus_of, Setup.homes_of}
use Rattle.eevdf_fleet.specs.{declared.board.claims.Terms.Terms, Claims.IsOnTerms}
use mathlib.Core.List.{IsPrefix}
use Rattle.eevdf_fleet.specs.Rings.{Rings, Posts, Posted, Takes, Returned, ArePostsOf, left_of}

-- what a fleet is opened from: the setup and each CPU's quota, the table that its tokens are of, and the rings between
-- its CPUs
pub record Kit : Type 0 where
  pub board : TableId
  pub terms : Terms
  pub rings : Rings

abbrev pub setup_of : Kit → Setup
setup_of k = k.terms.setup.value

-- how many lines each CPU may have, where a journal has them
abbrev pub quota_in : Option ℕ → ℕ
quota_in None = 0
quota_in (Some most) = most

abbrev pub quota_of : Kit → ℕ
quota_of k = quota_in k.terms.quota

-- there are no lines yet, and where there is a quota, room for that of every CPU
abbrev pub HasLines : Option ℕ → ℕ → Option (Vec Line Global) → Type 0
HasLines None cpus None = Unit {0}
HasLines None cpus (Some lines) = ⊥
HasLines (Some most) cpus None = ⊥
HasLines (Some most) cpus (Some lines) = (lines.items ≡ []) × (cpus * most ≤ vec_capacity lines)

-- how many requests each ring has room for
abbrev pub capacity_of : Kit → ℕ
capacity_of k = k.rings.capacity

-- a quota is at most this
abbrev pub most_lines : ℕ
most_lines = 1000000

-- a ring has room for at most so many requests
abbrev pub most_requests : ℕ
most_requests = 1000000

-- a seat: its CPU, its lines in order, how many more it may have, and the tasks that it has posted, by homes
pub record Seat : Type 0 where
  pub cpu : ℕ
  pub log : List Line
  pub room : ℕ
  pub posted : List (List ℕ)

abbrev pub posted_to : Seat → ℕ → List ℕ
posted_to s home = slice_index_or s.posted home []

-- the seat with one line more, and with one request more
abbrev pub logged : Seat → Line → Seat
logged s line = record s { log = s.log ++ line ∷ []; room = s.room - 1 }

-- the seat has the line of a deed with what it was answered; a refusal changes nothing
abbrev pub IsLogged : {E : Type 0} → Deed → Seat → Seat → Result Answer E → Type 0
IsLogged deed before after r = MatchResult r (λ a. after ≡ logged before (record { deed = deed; answer = a })) (λ _. after ≡ before)

abbrev pub with_post : Seat → ℕ → ℕ → Seat
with_post s home task = record s { posted = slice_set s.posted home (posted_to s home ++ task ∷ []) }

-- the seat of a CPU before anything is done, and the seats of so many CPUs, in order
abbrev pub fresh : ℕ → ℕ → ℕ → Seat
fresh quota cpus cpu = record { cpu = cpu; log = []; room = quota; posted = replicate cpus [] }

abbrev pub fresh_seats : ℕ → ℕ → List Seat
fresh_seats quota cpus = map (fresh quota cpus) (range_with_len 0 cpus)

-- the seats of all CPUs, in order
pub record AreSeats (cpus : ℕ) (seats : List Seat) : Type 0 where
  pub all : length seats ≡ cpus
  pub in_order : (cpu : ℕ) (s : Seat) → slice_get seats cpu ≡ Some s → s.cpu ≡ cpu

-- what a seat has posted to a home is the wakes that it asked for among the home's lines, whatever their answers, and then
-- what is left; of
-- `n` CPUs the list from sender `q` to home `c` stands at place `q * n + c`
abbrev pub AllPostsTold : ℕ → List Seat → List Line → List (List ℕ) → Type 0
AllPostsTold cpus seats lines left = (sender home : ℕ) (s : Seat) → slice_get seats sender ≡ Some s → home < cpus
    → posted_to s home ≡ wakes_from sender (lines_by home lines) ++ left_of cpus left sender home

-- the lines of a seat's CPU, how many more it may have where a journal has them, and the first lines of the history, as far as
-- the seat knows them
pub record SeatLog : Type 0 where
  pub cpu : ℕ
  pub lines : List Line
  pub room : ℕ
  pub seen : List Line

-- a line was committed, after these of other CPUs
abbrev pub written : SeatLog → List Line → Line → SeatLog
written s others line = record s { lines = s.lines ++ line ∷ []; room = s.room - 1; seen = s.seen ++ (others ++ line ∷ []) }

pub record HasWritten (before after : SeatLog) (line : Line) : Type 0 where
  pub others : List Line
  pub is : after ≡ written before others line

-- there is room for so many lines: always, where no journal has them
abbrev pub IsRoomFor : Option ℕ → ℕ → ℕ → Type 0
IsRoomFor quota count room = IfSome quota (λ (most : ℕ). count ≤ room)

abbrev pub fresh_log : ℕ → ℕ → SeatLog
fresh_log quota cpu = record { cpu = cpu; lines = []; room = quota; seen = [] }

abbrev pub fresh_logs : ℕ → ℕ → List SeatLog
fresh_logs quota cpus = map (fresh_log quota) (range_with_len 0 cpus)

abbrev pub seat_of : SeatLog → Posts → Seat
seat_of s p = record { cpu = s.cpu; log = s.lines; room = s.room; posted = p.posted }

-- a seat, the first lines of the history, as far as it knows them, and how many requests more certainly fit into the rings
-- to the homes
pub record Parts : Type 0 where
  pub seat : Seat
  pub seen : List Line
  pub free : List ℕ

abbrev pub parts_of : SeatLog → Posts → Parts
parts_of s p = record { seat = seat_of s p; seen = s.seen; free = p.free }

abbrev pub free_at : List ℕ → ℕ → ℕ
free_at free home = slice_index_or free home 0

-- no less fits than before
abbrev pub IsNoLess : List ℕ → List ℕ → Type 0
IsNoLess before after = (home : ℕ) → free_at before home ≤ free_at after home

-- nothing was done, and it may be known that more fits
pub record PartsLooked (before after : Parts) : Type 0 where
  pub seat : after.seat ≡ before.seat
  pub seen : after.seen ≡ before.seen
  pub free : IsNoLess before.free after.free

-- the same of the ring to one home alone
pub record HasLookedAt (home : ℕ) (before after : Parts) : Type 0 where
  pub seat : after.seat ≡ before.seat
  pub seen : after.seen ≡ before.seen
  pub others : after.free ≡ slice_set before.free home (free_at after.free home)
  pub free : free_at before.free home ≤ free_at after.free home

-- what the seat has seen is a history, in which its CPU has its lines
pub record AreKnown (t : Terms) (p : Parts) : Type 0 where
  pub kept : IsOnTerms t p.seen
  pub own : lines_by p.seat.cpu p.seen ≡ p.seat.log

-- the seat has seen more, and nothing else has changed
pub record PartsSeeMore (before after : Parts) : Type 0 where
  pub seat : after.seat ≡ before.seat
  pub seen : IsPrefix before.seen after.seen
  pub free : after.free ≡ before.free

-- a line of the seat was committed, after these of other CPUs
pub record HasCommitted (before after : Parts) (line : Line) : Type 0 where
  pub others : List Line
  pub seat : after.seat ≡ logged before.seat line
  pub seen : after.seen ≡ before.seen ++ (others ++ line ∷ [])
  pub free : after.free ≡ before.free

-- a request was posted, which fills one place in the ring to the home
pub record HasPosted (before after : Parts) (home task : ℕ) : Type 0 where
  pub seat : after.seat ≡ with_post before.seat home task
  pub seen : after.seen ≡ before.seen
  pub others : after.free ≡ slice_set before.free home (free_at after.free home)
  pub free : free_at before.free home ≤ free_at after.free home + 1

-- the parts of the seat of a CPU before anything is done, and those of all CPUs, in order
abbrev pub fresh_parts : ℕ → ℕ → ℕ → ℕ → Parts
fresh_parts quota capacity cpus cpu = record { seat = fresh quota cpus cpu; seen = []; free = replicate cpus capacity }

abbrev pub all_fresh_parts : Kit → List Parts
all_fresh_parts k = map (fresh_parts (quota_of k) (capacity_of k) (cpus_of (setup_of k))) (range_with_len 0 (cpus_of (setup_of k)))

abbrev pub seats_in : List Parts → List Seat
seats_in parts = map (λ (p : Parts). p.seat) parts

-- what the lines of a CPU say that it took, by the CPUs that asked for it
abbrev pub takes_by : ℕ → ℕ → List Line → Takes
takes_by cpus cpu lines = record { home = cpu; taken = map (λ (sender : ℕ). wakes_from sender lines) (range_with_len 0 cpus) }

-- what the parts of a seat have in common
pub record AreParts (cpus : ℕ) (log : SeatLog) (p : Posts) (t : Takes) : Type 0 where
  pub posts : ArePostsOf cpus log.cpu p
  pub takes : t ≡ takes_by cpus log.cpu log.lines
  pub within : log.cpu < cpus

-- the parts of a seat belong together, and to their kit
abbrev pub ArePartsOf : Kit → SeatLog → Posts → Takes → List ℕ → Type 0
ArePartsOf k log p t homes = AreParts (cpus_of (setup_of k)) log p t
    × (homes ≡ homes_of (setup_of k))
    × AreCpus (cpus_of (setup_of k)) (homes_of (setup_of k))
    × (k.rings.homes ≡ homes_of (setup_of k))
    × (k.rings.board ≡ k.board)
    × (k.rings.terms ≡ Some k.terms)

-- the ends that seats give back, one CPU's after the other's, and with those of a seat more
abbrev pub posts_by : Seat → Posted
posts_by s = record { sender = s.cpu; posted = s.posted }

abbrev pub taken_by : ℕ → Seat → Takes
taken_by cpus s = takes_by cpus s.cpu s.log

abbrev pub returned : ℕ → List Seat → Returned
returned cpus seats = record { cpus = cpus; posts = map posts_by seats; takes = map (taken_by cpus) seats }

abbrev pub given_back : ℕ → Returned → Seat → Returned
given_back cpus r s = record r { posts = r.posts ++ posts_by s ∷ []; takes = r.takes ++ taken_by cpus s ∷ [] }

-- what stands in a lock: the queue of the CPU of this number
pub record Slot : Type 0 where
  pub number : ℕ
  pub queue : states.View

abbrev pub no_table : TableId
no_table = record { words = 0; slots = 0; views_name = 0; atom = 0; block = 0; offset = 0; slot_names = [] }

abbrev pub no_kit : Kit
no_kit = record { board = no_table; terms = record { setup = record { marker = record {}; value = record { tasks = []; programs = [] } }; quota = None }; rings = record { board = no_table; terms = None; capacity = 0; homes = []; rings = [] } }
