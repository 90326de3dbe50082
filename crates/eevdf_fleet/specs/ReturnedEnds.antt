-- Room for the ends that are given back, and for what is left in the rings.
use Rattle.std.specs.Prelude.{◌≡◌, ℕ, ◌*◌, ◌/◌, ◌%◌, ◌≤◌, ◌<◌, List, [], ◌++◌, length, slice_get, slice_index_or, Some, vec_capacity}
use Rattle.std.specs.{declared.alloc.Global.Global, declared.vec.Vec.Vec}
use Rattle.eevdf_ops.specs.Numbers.{most_cpus}
use Rattle.eevdf_fleet.specs.RingEnds.{lists_of, slots_for}
use Rattle.eevdf_fleet.specs.Rings.{Posts, Takes, Returned, AllReturned, given_to, posts_at, takes_at, taken_from}

-- an empty list with room for this many requests
pub record IsEmptyList (capacity : ℕ) (list : Vec ℕ Global) : Type 0 where
  pub empty : list.items ≡ []
  pub room : capacity ≤ vec_capacity list

pub record AreEmptyLists (capacity count : ℕ) (lists : List (Vec ℕ Global)) : Type 0 where
  pub each : length lists ≡ count
  pub empty : (place : ℕ) (list : Vec ℕ Global) → slice_get lists place ≡ Some list → IsEmptyList capacity list

-- room for all ends, and an empty list for each pair, as long as its ring
pub record HasRoom (capacity cpus : ℕ) (producers : Vec Posts Global) (consumers : Vec Takes Global) (left : List (Vec ℕ Global)) : Type 0 where
  pub few : cpus ≤ most_cpus
  pub producers_fit : cpus ≤ vec_capacity producers
  pub consumers_fit : cpus ≤ vec_capacity consumers
  pub left_fits : AreEmptyLists (slots_for capacity) (cpus * cpus) left

-- the sender and the home of the pair at a place, of so many CPUs
abbrev pub sender_at : ℕ → ℕ → ℕ
sender_at cpus place = place / cpus

abbrev pub home_at : ℕ → ℕ → ℕ
home_at cpus place = place % cpus

abbrev pub posted_at : Returned → ℕ → List ℕ
posted_at r place = given_to (posts_at r (sender_at r.cpus place)) (home_at r.cpus place)

abbrev pub taken_at : Returned → ℕ → List ℕ
taken_at r place = taken_from (takes_at r (home_at r.cpus place)) (sender_at r.cpus place)

-- the rings of the pairs below a place are emptied, and the others are as they were
pub record EmptiedBelow (capacity : ℕ) (r now : Returned) (place : ℕ) (left : List (Vec ℕ Global)) : Type 0 where
  pub posts : now.posts ≡ r.posts
  pub ends : AllReturned now
  pub each : length left ≡ now.cpus * now.cpus
  pub emptied : (k : ℕ) → k < place → posted_at r k ≡ taken_at r k ++ slice_index_or (lists_of left) k []
  pub others : (k : ℕ) → place ≤ k → taken_at now k ≡ taken_at r k
  pub room : (k : ℕ) (list : Vec ℕ Global) → place ≤ k → slice_get left k ≡ Some list → IsEmptyList capacity list
