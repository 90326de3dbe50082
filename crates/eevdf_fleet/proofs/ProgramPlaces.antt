-- The operation at a place of a program: what it may ask for, and the run up to it and past it.
use Rattle.std.proofs.Common.{◌≡◌, ◌≢◌, ℕ, ◌+◌, ◌<◌, ◌≤◌, List, [], ◌∷◌, ◌++◌, length, take, get_or, sym, ap, subst, ◌∙◌, arith}
use Rattle.std.proofs.lemmas.List.{get_or-replicate, take_more}
use Rattle.std.proofs.lemmas.List.Sums.{sum_by_more, sum_by_more_le}
use Rattle.std.specs.Prelude.{None}
use Rattle.eevdf_ops.specs.{declared.deeds.Line.Line, declared.deeds.Op.Op, Faults.operation_fault, Faults.setup_fault}
use Rattle.eevdf_ops.specs.Followed.{program_of}
use Rattle.eevdf_ops.specs.Programs.{deeds_of, post_of, posts_in, wakes_from}
use Rattle.eevdf_ops.specs.Setup.{Setup, cpus_of, homes_of}
use Rattle.eevdf_ops.proofs.SetupFaults.{operation_sound}
use Rattle.eevdf_fleet.specs.Fleets.{Seat, fresh, posted_to}
use Rattle.eevdf_fleet.specs.ProgramRuns.{HasOperated, HasRun, posts_of, program_posts, program_room, quota_for, rings_for, room_for}
use Rattle.eevdf_fleet.proofs.ProgramOperations.{run-more}
use Rattle.eevdf_fleet.proofs.ProgramRooms.{all-posts-counted, greatest-bounds, posts-one}

-- an operation stands at this place of the program of a CPU
pub record StandsAt (s : Setup) (cpu n : ℕ) (program : List Op) (o : Op) : Type 0 where
  pub sound : setup_fault s.tasks s.programs ≡ None
  pub below : cpu < cpus_of s
  pub program_is : program ≡ program_of s cpu
  pub within : n < length program
  pub found : o ≡ get_or program n o

pub placed-sound : (s : Setup) (cpu n : ℕ) (program : List Op) (o : Op) → StandsAt s cpu n program o
    → operation_fault (homes_of s) (cpus_of s) cpu n o ≡ None
placed-sound s cpu n program o h =
    let found : o ≡ get_or (program_of s cpu) n o = h.found ∙ ap (λ (ops : List Op). get_or ops n o) h.program_is in
    let within : n < length (program_of s cpu) = subst (λ (ops : List Op). n < length ops) h.program_is h.within in
    subst (λ (x : Op). operation_fault (homes_of s) (cpus_of s) cpu n x ≡ None) (sym found) (operation_sound s cpu n o h.sound h.below within)

placed-asks : (s : Setup) (cpu n : ℕ) (program : List Op) (o : Op) → StandsAt s cpu n program o
    → program_room (cpus_of s) (take n program) + room_for (cpus_of s) o ≤ quota_for s
placed-asks s cpu n program o h =
    let here : room_for (cpus_of s) o ≡ room_for (cpus_of s) (get_or program n o) = ap (room_for (cpus_of s)) h.found in
    let all : program_room (cpus_of s) program ≡ program_room (cpus_of s) (program_of s cpu) = ap (program_room (cpus_of s)) h.program_is in
    omega (arith, sum_by_more_le (room_for (cpus_of s)) program n o h.within, greatest-bounds (program_room (cpus_of s)) s.programs cpu [] h.below)

-- there is room for it
pub placed-room : (s : Setup) (cpu n room : ℕ) (program : List Op) (o : Op) → StandsAt s cpu n program o
    → quota_for s ≤ room + program_room (cpus_of s) (take n program) → room_for (cpus_of s) o ≤ room
placed-room s cpu n room program o h left = omega (arith, placed-asks s cpu n program o h)

pub room-next : (s : Setup) (cpu n before after : ℕ) (program : List Op) (o : Op) → StandsAt s cpu n program o
    → quota_for s ≤ before + program_room (cpus_of s) (take n program) → before ≤ after + room_for (cpus_of s) o
    → quota_for s ≤ after + program_room (cpus_of s) (take (n + 1) program)
room-next s cpu n before after program o h left charged =
    let here : room_for (cpus_of s) o ≡ room_for (cpus_of s) (get_or program n o) = ap (room_for (cpus_of s)) h.found in
    omega (arith, sum_by_more (room_for (cpus_of s)) program n o h.within)

-- where it posts, the ring isn't full
pub placed-ring : (s : Setup) (cpu n : ℕ) (program : List Op) (o : Op) (seat : Seat) → StandsAt s cpu n program o → HasRun s cpu (take n program) seat
    → (home : ℕ) → home < cpus_of s → post_of (homes_of s) home o ≢ [] → length (posted_to seat home) < rings_for s
placed-ring s cpu n program o seat h run home below some =
    let posted : length (posted_to seat home) ≡ length (posts_in (homes_of s) home (take n program)) = ap (λ (tasks : List ℕ). length tasks) (run.posts home below) in
    let here : posts_of o ≡ posts_of (get_or program n o) = ap posts_of h.found in
    let all : program_posts program ≡ program_posts (program_of s cpu) = ap program_posts h.program_is in
    omega (
      arith,
      all-posts-counted (homes_of s) home (take n program),
      posts-one (homes_of s) home o some,
      sum_by_more_le posts_of program n o h.within,
      greatest-bounds program_posts s.programs cpu [] h.below,
    )

pub run-first : (s : Setup) (cpu : ℕ) (seat : Seat) → cpu < cpus_of s → cpu ≡ seat.cpu → seat ≡ fresh (quota_for s) (cpus_of s) seat.cpu → HasRun s cpu [] seat
run-first s cpu seat below own e = record {
  own = sym own;
  operations = ap (λ (x : Seat). deeds_of x.log) e;
  takes = ap (λ (x : Seat). deeds_of x.log) e;
  posts = λ home h. ap (λ (x : Seat). posted_to x home) e ∙ get_or-replicate (cpus_of s) home [] [] h;
  waits = ap (λ (x : Seat). posted_to x cpu) e ∙ get_or-replicate (cpus_of s) cpu [] [] below
      ∙ ap (λ (lines : List Line). wakes_from cpu lines ++ []) (sym (ap (λ (x : Seat). x.log) e));
}

pub run-next : (s : Setup) (cpu n : ℕ) (program : List Op) (o : Op) (before after : Seat) → StandsAt s cpu n program o
    → HasRun s cpu (take n program) before → HasOperated s o before after → HasRun s cpu (take (n + 1) program) after
run-next s cpu n program o before after h run done =
    subst (λ (ops : List Op). HasRun s cpu ops after) (sym (take_more program n o h.within ∙ ap (λ (x : Op). take n program ++ x ∷ []) (sym h.found)))
    (run-more s cpu (take n program) o before after h.below run done)
