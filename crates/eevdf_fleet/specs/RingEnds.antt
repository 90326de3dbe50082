-- The ends of the rings, and what is seen of them.
use Rattle.std.specs.Prelude.{◌≡◌, ℕ, ◌+◌, ◌<◌, List, [], ◌∷◌, length, map, min, max, slice_get, Some}
use Rattle.std.specs.{Option.IsSomeAnd, declared.alloc.Global.Global, declared.vec.Vec.Vec}
use Rattle.rtrb.specs.declared.consumer.Consumer.{Consumer}
use Rattle.rtrb.specs.Ring.{sent, known_free, producer_capacity, received, consumer_capacity, IsPair, SameProducer}
use Rattle.eevdf_fleet.specs.declared.rings.request.{AtHome.AtHome, Request.Request}
use Rattle.atomic_table.specs.declared.badge.Badge.{Badge}
use Rattle.eevdf_fleet.specs.declared.board.claims.View.{View}
use Rattle.eevdf_fleet.specs.declared.board.claims.PostClaim.TheVariants as claim
use Rattle.eevdf_fleet.specs.{Board.IsToken, Board.posts_of, Fleets.Kit}
use Rattle.eevdf_fleet.specs.Requests.{IsMarked, Source, tasks_after}
use Rattle.eevdf_fleet.specs.Rings.{Ring, Rings, Posts, Takes, ring_at, source_of}

abbrev pub Pushing : Type 0
Pushing = Ring

abbrev pub Popping : Type 0
Popping = Consumer Request Global AtHome

-- how many slots a ring has that has room for so many requests: its mark needs one, if only before the first request
abbrev pub slots_for : ℕ → ℕ
slots_for capacity = max capacity 1

-- the tasks that were pushed into a ring, and those that were popped from it
abbrev pub posted_into : Pushing → List ℕ
posted_into end = tasks_after (sent end)

abbrev pub taken_out : Popping → List ℕ
taken_out end = tasks_after (received end)

-- how many requests more are known to fit. Into a ring without room none fits, though it has a slot.
abbrev pub free_in : ℕ → Pushing → ℕ
free_in capacity end = min capacity (known_free end)

-- an end that pushes into a ring to a home, which has room for what was never pushed
pub record PushesInto (capacity : ℕ) (source : Source) (home : ℕ) (ring : Ring) (end : Pushing) : Type 0 where
  pub same : SameProducer ring end
  pub capacity_is : producer_capacity end ≡ slots_for capacity
  pub room : capacity < known_free end + length (sent end)
  pub marked : IsMarked source home (sent end)

-- an end that pops from a ring to a home
pub record PopsFrom (capacity : ℕ) (source : Source) (home : ℕ) (ring : Ring) (end : Popping) : Type 0 where
  pub pair : IsPair ring end
  pub capacity_is : consumer_capacity end ≡ slots_for capacity
  pub marked : IsMarked source home (received end)

-- each end belongs to its place
abbrev pub Each : {E : Type 0} → (ℕ → E → Type 0) → List E → Type 0
Each {E} Belongs ends = (k : ℕ) (end : E) → slice_get ends k ≡ Some end → Belongs k end

abbrev pub lists_of : {X : Type 0} → List (Vec X Global) → List (List X)
lists_of {X} lists = map (λ (l : Vec X Global). l.items) lists

-- the ends of a sender's rings to all homes
pub record AreProducers (r : Rings) (sender : ℕ) (ends : List Pushing) : Type 0 where
  pub each : Each (λ home end. IsSomeAnd (ring_at r sender home) (λ ring. PushesInto r.capacity (source_of r sender) home ring end)) ends

-- the ends at which a CPU posts are those of its kit's rings, and the token claims what was posted
abbrev pub ArePosting : Kit → ℕ → ℕ → List Pushing → Badge View → Type 0
ArePosting k capacity sender ends token = AreProducers k.rings sender ends
    × (capacity ≡ k.rings.capacity)
    × IsToken k.board k.terms token
    × (posts_of token ≡ claim.Posts sender (map posted_into ends) ∷ [])
    × (k.rings.board ≡ k.board)
    × (k.rings.terms ≡ Some k.terms)

-- the ends of a home's rings from all senders
pub record AreConsumers (r : Rings) (home : ℕ) (ends : List Popping) : Type 0 where
  pub each : Each (λ sender end. IsSomeAnd (ring_at r sender home) (λ ring. PopsFrom r.capacity (source_of r sender) home ring end)) ends

abbrev pub posts : ℕ → ℕ → List Pushing → Posts
posts capacity sender ends = record { sender = sender; posted = map posted_into ends; free = map (free_in capacity) ends }

abbrev pub takes : ℕ → List Popping → Takes
takes home ends = record { home = home; taken = map taken_out ends }
