-- Rings that are being opened: the ends that push, in rows of one sender each, and those that pop, in columns of one
-- home each.
use Rattle.std.specs.Prelude.{◌≡◌, ℕ, ◌≤◌, ◌<◌, List, [], ◌∷◌, ◌++◌, length, slice_get, slice_index_or, Option}
use Rattle.std.specs.Option.{IsSomeAnd}
use Rattle.rtrb.specs.Ring.{sent, known_free, producer_capacity}
use Rattle.eevdf_fleet.specs.Requests.{IsMarked, Source}
use Rattle.eevdf_fleet.specs.Rings.{Ring, Rings, no_posts, no_takes}
use Rattle.eevdf_fleet.specs.RingEnds.{Pushing, Popping, PopsFrom, Each, AreProducers, AreConsumers, posted_into, posts, slots_for, taken_out, takes}

abbrev pub list_at : {X : Type 0} → List (List X) → ℕ → List X
list_at lists k = slice_index_or lists k []

-- only its mark was pushed into a ring to a home, and all its slots are known to be free
pub record IsFresh (capacity : ℕ) (source : Source) (home : ℕ) (end : Pushing) : Type 0 where
  pub capacity_is : producer_capacity end ≡ slots_for capacity
  pub marked : IsMarked source home (sent end)
  pub none : posted_into end ≡ []
  pub free_is : known_free end ≡ slots_for capacity

-- an end of a ring from which only its mark was taken
pub record Begins (capacity : ℕ) (source : Source) (home : ℕ) (ring : Ring) (end : Popping) : Type 0 where
  pub pops : PopsFrom capacity source home ring end
  pub none : taken_out end ≡ []

abbrev pub ring_in : List (List Pushing) → ℕ → ℕ → Option Ring
ring_in rows sender home = slice_get (list_at rows sender) home

-- rows of ends to so many homes, and the other ends in columns, one for each home
pub record AreOpened (capacity : ℕ) (sources : ℕ → Source) (cpus : ℕ) (rows : List (List Pushing)) (columns : List (List Popping)) : Type 0 where
  pub columns_are : length columns ≡ cpus
  pub to_all : (sender : ℕ) → sender < length rows → length (list_at rows sender) ≡ cpus
  pub from_all : (home : ℕ) → home < cpus → length (list_at columns home) ≡ length rows
  pub fresh : (sender : ℕ) → sender < length rows → Each (IsFresh capacity (sources sender)) (list_at rows sender)
  pub pairs : (home : ℕ) → home < cpus → Each (λ sender end. IsSomeAnd (ring_in rows sender home) (λ r. Begins capacity (sources sender) home r end)) (list_at columns home)

-- a column with one end more, that of a ring
pub record Adds (capacity : ℕ) (source : Source) (home : ℕ) (ring : Pushing) (before after : List Popping) : Type 0 where
  pub fresh : IsFresh capacity source home ring
  pub end : Popping
  pub begins : Begins capacity source home ring end
  pub added : after ≡ before ++ end ∷ []

-- a row to so many homes, each of whose columns has one end more
pub record AreRow (capacity : ℕ) (source : Source) (cpus : ℕ) (row : List Pushing) (before after : List (List Popping)) : Type 0 where
  pub to_all : length row ≡ cpus
  pub columns_are : length after ≡ length before
  pub each : Each (λ home ring. Adds capacity source home ring (list_at before home) (list_at after home)) row
  pub others : (home : ℕ) → cpus ≤ home → list_at after home ≡ list_at before home

-- the rows of a number of CPUs, as they are before anything is posted, under the rings' names
abbrev pub AreNewRows : Rings → List (List Pushing) → Type 0
AreNewRows r rows = (sender : ℕ) → sender < length rows
    → AreProducers r sender (list_at rows sender) × (posts r.capacity sender (list_at rows sender) ≡ no_posts r.capacity (length rows) sender)

abbrev pub AreNewColumns : Rings → List (List Popping) → Type 0
AreNewColumns r columns = (home : ℕ) → home < length columns
    → AreConsumers r home (list_at columns home) × (takes home (list_at columns home) ≡ no_takes (length columns) home)
