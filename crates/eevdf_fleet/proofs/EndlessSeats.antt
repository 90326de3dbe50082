-- What is seen of a seat that keeps no history, from what is seen of its parts.
use Rattle.std.proofs.Common.{◌≡◌, ◌==◌, ℕ, zero, suc, List, [], ◌∷◌, map, refl, sym, ap, subst, ◌∙◌}
use Rattle.std.specs.Prelude.{IsSomeAnd, Option, Some, None, slice_get, option_map}
use mathlib.Core.List.{IsPrefix}
use Rattle.std.proofs.lemmas.List.{length-map}
use Rattle.std.proofs.lemmas.List.Elements.{All-map, filter-append}
use Rattle.std.proofs.lemmas.Option.{none-some, slice_get-map}
use Rattle.eevdf_ops.specs.{declared.deeds.Answer.Answer, declared.deeds.Deed.Deed, declared.deeds.Line.Line}
use Rattle.eevdf_ops.specs.{Outcome.machine_of, Parts.decider, Programs.lines_by, Setup.cpus_of}
use Rattle.eevdf_fleet.specs.{declared.board.claims.Terms.Terms, declared.closing.ClosedQueues.ClosedQueues, declared.drains.Drained.Drained, declared.wake_list.DrainedWake.DrainedWake}
use Rattle.eevdf_fleet.specs.{Claims.IsOnTerms, Closings.AreClosed, Drains.ArePartsDrained}
use Rattle.eevdf_fleet.specs.Drains as drains
use Rattle.eevdf_fleet.specs.Fleets as fleets
use Rattle.eevdf_fleet.specs.Fleets.{AreKnown, HasCommitted, IsRoomFor, Parts, PartsLooked, PartsSeeMore, seats_in}
use Rattle.eevdf_fleet.specs.Endless.{AllPostsTold, AreListed, AreOfOneHistory, AreSeats, HasDone, HasDrained, HasFound, HasPosted, HasSeen, HasSeenMore, IsOneThread, Seat, posted_to, seat_of_parts}

-- no room is asked for where nothing is kept
pub any-room : (quota : Option ℕ) (count room : ℕ) → quota ≡ None → IsRoomFor quota count room
any-room quota count room none = subst (λ (q : Option ℕ). IsRoomFor q count room) (sym none) tt

pub one-thread : (t : Terms) (lines : List Line) → IsOnTerms t lines → IsOneThread t.setup.value lines
one-thread t lines kept = record { history = kept.history; allowed = kept.allowed; places = kept.placed }

pub has-seen : (t : Terms) (p : Parts) → AreKnown t p → HasSeen t.setup.value (seat_of_parts p)
has-seen t p known = record { one_thread = one-thread t p.seen known.kept; own = known.own }

has-done : (t : Terms) (deed : Deed) (answer : Answer) (before after : Parts) → HasCommitted before after (record { deed = deed; answer = answer }) → AreKnown t after
    → HasDone t.setup.value deed answer (seat_of_parts before) (seat_of_parts after)
has-done t deed answer before after done known = record {
  others = done.others;
  cpu = ap (λ (s : fleets.Seat). s.cpu) done.seat;
  log = ap (λ (s : fleets.Seat). s.log) done.seat;
  seen = done.seen;
  posted = ap (λ (s : fleets.Seat). s.posted) done.seat;
  free = done.free;
  has_seen = has-seen t after known;
}

-- and so by an operation that is a deed
pub has-operated : (t : Terms) (o : Option Deed) (answer : Answer) (before after : Parts) → IsSomeAnd o (λ deed. HasCommitted before after (record { deed = deed; answer = answer })) → AreKnown t after
    → IsSomeAnd o (λ deed. HasDone t.setup.value deed answer (seat_of_parts before) (seat_of_parts after))
has-operated t None answer before after done known = absurd done
has-operated t (Some deed) answer before after done known = has-done t deed answer before after done known

pub has-drained : (t : Terms) (drained : Drained) (before after : Parts) → ArePartsDrained before after drained → AreKnown t after → HasDrained t.setup.value drained (seat_of_parts before) (seat_of_parts after)
has-drained t drained before after done known = record {
  lines = done.does.lines;
  cpu = ap (λ (s : fleets.Seat). s.cpu) done.does.seat;
  log = ap (λ (s : fleets.Seat). s.log) done.does.seat;
  wakes = done.does.wakes;
  taken = done.does.taken;
  woken = done.does.woken;
  own = done.does.own;
  seen = done.seen;
  posted = ap (λ (s : fleets.Seat). s.posted) done.does.seat;
  free = done.free;
  has_seen = has-seen t after known;
}

pub are-listed : (before after : Parts) (list list' : List DrainedWake) → drains.AreListed before.seat after.seat list list' → AreListed (seat_of_parts before) (seat_of_parts after) list list'
are-listed before after list list' h = record { wakes = h.wakes; pushed = h.holds; lines = h.lines }

pub has-posted : (home task : ℕ) (before after : Parts) → fleets.HasPosted before after home task → HasPosted home task (seat_of_parts before) (seat_of_parts after)
has-posted home task before after done = record {
  cpu = ap (λ (s : fleets.Seat). s.cpu) done.seat;
  log = ap (λ (s : fleets.Seat). s.log) done.seat;
  seen = done.seen;
  posted = ap (λ (s : fleets.Seat). s.posted) done.seat;
  others = done.others;
  free = done.free;
}

pub has-found : (before after : Parts) → PartsLooked before after → HasFound (seat_of_parts before) (seat_of_parts after)
has-found before after looked = record {
  cpu = ap (λ (s : fleets.Seat). s.cpu) looked.seat;
  log = ap (λ (s : fleets.Seat). s.log) looked.seat;
  seen = looked.seen;
  posted = ap (λ (s : fleets.Seat). s.posted) looked.seat;
  free = looked.free;
}

pub has-seen-more : (t : Terms) (before after : Parts) → PartsSeeMore before after → AreKnown t after → HasSeenMore t.setup.value (seat_of_parts before) (seat_of_parts after)
has-seen-more t before after more known = record {
  cpu = ap (λ (s : fleets.Seat). s.cpu) more.seat;
  log = ap (λ (s : fleets.Seat). s.log) more.seat;
  seen = more.seen;
  posted = ap (λ (s : fleets.Seat). s.posted) more.seat;
  free = more.free;
  has_seen = has-seen t after known;
}

-- fewer lines have the first of a CPU's lines
lines-begin : (cpu : ℕ) (seen lines : List Line) → IsPrefix seen lines → IsPrefix (lines_by cpu seen) (lines_by cpu lines)
lines-begin cpu seen lines h = (lines_by cpu h.0, sym (filter-append (λ (l : Line). decider l.deed == cpu) seen h.0) ∙ ap (lines_by cpu) h.1)

-- of what a seat has learnt the lines of its CPU are the first of its own
pub own-lines-begin : (t : Terms) (seen : List Line) (before after : Parts) → PartsSeeMore before after → AreKnown t after → IsPrefix seen after.seen → IsPrefix (lines_by before.seat.cpu seen) before.seat.log
own-lines-begin t seen before after more known begins =
    subst (λ (s : fleets.Seat). IsPrefix (lines_by s.cpu seen) s.log) more.seat
    (subst (λ (own : List Line). IsPrefix (lines_by after.seat.cpu seen) own) known.own (lines-begin after.seat.cpu seen after.seen begins))

-- an element of a list of which something is read, and what is read of it
read-at : {X Y : Type 0} (f : X → Y) (xs : List X) (k : ℕ) (y : Y) → slice_get (map f xs) k ≡ Some y → (x : X) × (slice_get xs k ≡ Some x) × (f x ≡ y)
read-at f [] k y e = absurd (none-some y e)
read-at f (x ∷ xs) zero y e = (x, refl, cc)
read-at f (x ∷ xs) (suc k) y e = read-at f xs k y e

-- seats of all CPUs in order are so by their parts
pub parts-in-order : (cpus : ℕ) (parts : List Parts) (seats : List Seat) → map seat_of_parts parts ≡ seats → AreSeats cpus seats → fleets.AreSeats cpus (seats_in parts)
parts-in-order cpus parts seats is h = subst (λ (ss : List Seat). AreSeats cpus ss → fleets.AreSeats cpus (seats_in parts)) is at h
  where
    at : AreSeats cpus (map seat_of_parts parts) → fleets.AreSeats cpus (seats_in parts)
    at all = record {
      all = length-map parts (λ (p : Parts). p.seat) ∙ sym (length-map parts seat_of_parts) ∙ all.all;
      in_order = λ cpu s got.
          let p = read-at (λ (p : Parts). p.seat) parts cpu s got in
          ap (λ (x : fleets.Seat). x.cpu) (sym p.2) ∙ all.in_order cpu (seat_of_parts p.0) (slice_get-map seat_of_parts parts cpu ∙ ap (option_map seat_of_parts) p.1);
    }

posts-of-parts : (cpus : ℕ) (parts : List Parts) (lines : List Line) (left : List (List ℕ)) → fleets.AllPostsTold cpus (seats_in parts) lines left → AllPostsTold cpus (map seat_of_parts parts) lines left
posts-of-parts cpus parts lines left told sender home s got below =
    let p = read-at seat_of_parts parts sender s got in
    ap (λ (x : Seat). posted_to x home) (sym p.2)
    ∙ told sender home p.0.seat (slice_get-map (λ (x : Parts). x.seat) parts sender ∙ ap (option_map (λ (x : Parts). x.seat)) p.1) below

-- seats whose parts are closed are of one history
pub of-one-history : (t : Terms) (parts : List Parts) (seats : List Seat) (closed : ClosedQueues) → map seat_of_parts parts ≡ seats → AreClosed t parts closed
    → AreOfOneHistory t.setup.value seats (machine_of closed.queues.items) (map (λ l. l.items) closed.left.items)
of-one-history t parts seats closed is h =
    subst (λ (ss : List Seat). AreOfOneHistory t.setup.value ss (machine_of closed.queues.items) (map (λ l. l.items) closed.left.items)) is (record {
      lines = h.lines;
      one_thread = one-thread t h.lines h.kept;
      logs = All-map (λ (s : Seat). lines_by s.cpu h.lines ≡ s.log) seat_of_parts parts (λ k x within. (h.seats k x within).log);
      seen = All-map (λ (s : Seat). IsPrefix s.seen h.lines) seat_of_parts parts (λ k x within. (h.seats k x within).seen);
      machine = h.machine;
      posts = posts-of-parts (cpus_of t.setup.value) parts h.lines _ h.posts;
      each = length-map closed.left.items (λ l. l.items) ∙ h.left;
    })
