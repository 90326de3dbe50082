-- What run queues are closed to.
use Rattle.std.specs.Prelude.{◌≡◌, ℕ, ◌+◌, ◌*◌, ◌<◌, List, [], ◌∷◌, All, Option, Some, None, IfSome, is_some, length, map}
use Rattle.std.specs.{declared.alloc.Global.Global, declared.vec.Vec.Vec}
use mathlib.Core.List.{IsPrefix}
use Rattle.eevdf_queue.specs.State.{View}
use Rattle.eevdf_ops.specs.{declared.deeds.Line.Line, Machine.queue_at, Outcome.machine_of, Programs.lines_by, Setup.cpus_of}
use Rattle.eevdf_fleet.specs.{declared.board.claims.Terms.Terms, declared.board.claims.Claim.Claim}
use Rattle.eevdf_fleet.specs.declared.board.claims.Claim.TheVariants.{Seat, Queue, Journal, Past}
use Rattle.eevdf_fleet.specs.declared.closing.ClosedQueues.{ClosedQueues}
use Rattle.eevdf_fleet.specs.{Claims.IsOnTerms, Claims.told, Fleets.AllPostsTold, Fleets.Parts, Fleets.seats_in}

-- a queue that is claimed stands at its number, which is a CPU's
abbrev pub IsPut : ℕ → List View → Claim → Type 0
IsPut cpus queues (Seat cpu own) = Unit {0}
IsPut cpus queues (Queue cpu q) = (cpu < cpus) × (queue_at (machine_of queues) cpu ≡ q)
IsPut cpus queues (Journal all) = Unit {0}
IsPut cpus queues (Past seen) = Unit {0}

abbrev pub AllPut : ℕ → List View → List Claim → Type 0
AllPut cpus queues [] = Unit {0}
AllPut cpus queues (c ∷ claims) = IsPut cpus queues c × AllPut cpus queues claims

-- how many queues are claimed
abbrev pub is_queue : Claim → ℕ
is_queue (Seat cpu own) = 0
is_queue (Queue cpu q) = 1
is_queue (Journal all) = 0
is_queue (Past seen) = 0

abbrev pub queue_count : List Claim → ℕ
queue_count [] = 0
queue_count (c ∷ claims) = is_queue c + queue_count claims

-- the claims with that of the journal's lines, where there is one
abbrev pub with_journal : Option (Vec Line Global) → List Claim → List Claim
with_journal None claims = claims
with_journal (Some lines) claims = Journal lines.items ∷ claims

-- what a seat has is of these lines
pub record IsOfLines (lines : List Line) (p : Parts) : Type 0 where
  pub log : lines_by p.seat.cpu lines ≡ p.seat.log
  pub seen : IsPrefix p.seen lines

-- there is one history, of which each seat has its CPU's lines and has seen the first ones; it leaves the queues, and the posts that
-- weren't drained are left; where a journal was kept, it has this history
pub record AreClosed (t : Terms) (parts : List Parts) (closed : ClosedQueues) : Type 0 where
  pub lines : List Line
  pub kept : IsOnTerms t lines
  pub seats : All (IsOfLines lines) parts
  pub machine : machine_of closed.queues.items ≡ told t lines
  pub posts : AllPostsTold (cpus_of t.setup.value) (seats_in parts) lines (map (λ l. l.items) closed.left.items)
  pub left : length closed.left.items ≡ cpus_of t.setup.value * cpus_of t.setup.value
  pub cpus : length closed.queues.items ≡ cpus_of t.setup.value
  pub recorded : is_some closed.lines ≡ is_some t.quota
  pub journal : IfSome closed.lines (λ all. all.items ≡ lines)
