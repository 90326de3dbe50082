-- What lies at the pointers that C hands over.
use Rattle.std.specs.Prelude.{ℤ, Bool, Option}
use Rattle.std.specs.Borrow.{Fml, full_share}
use Rattle.std.specs.Ptr.{Ptr, lies_at, room_at}
use Rattle.eevdf_queue.specs.State.{State, Contents}
use denote.Builtin.{i64}
use Rattle.eevdf_c.specs.contracts.entry_out.EntryOut as entry_type
use Rattle.eevdf_c.specs.declared.entry_out.EntryOut.{EntryOut}
use Rattle.eevdf_c.specs.contracts.sleeper_out.SleeperOut as sleeper_type
use Rattle.eevdf_c.specs.declared.sleeper_out.SleeperOut.{SleeperOut}
use Rattle.eevdf_c.specs.contracts.place_out.PlaceOut as place_type
use Rattle.eevdf_c.specs.declared.place_out.PlaceOut.{PlaceOut}
use Rattle.eevdf_c.specs.contracts.parcel_out.ParcelOut as parcel_type
use Rattle.eevdf_c.specs.declared.parcel_out.ParcelOut.{ParcelOut}
use Rattle.eevdf_c.specs.contracts.opened.Opened as opened_type
use Rattle.eevdf_c.specs.contracts.hand.Hand as hand_type
use Rattle.eevdf_c.specs.contracts.given_block.GivenBlock as block_type
use Rattle.eevdf_c.specs.contracts.fair_bounds.FairBounds as bounds_type
use Rattle.eevdf_c.specs.contracts.fair_shares.FairShares as shares_type
use Rattle.eevdf_fair_queue.specs.declared.bounds.Bounds.{Bounds}
use Rattle.eevdf_fair_queue.specs.Beside.{SharesView}

-- an opened queue, which nobody else uses
abbrev pub queue_at : Ptr → State → Fml
queue_at at q = lies_at opened_type.the_row full_share at q

-- as many bytes as an opened queue has, aligned as it is, which nobody else uses, whatever is in them
abbrev pub room_for_queue : Ptr → Fml
room_for_queue at = room_at opened_type.the_row at

-- an opened hand, which nobody else uses
abbrev pub hand_at : Ptr → Option Contents → Fml
hand_at at h = lies_at hand_type.the_row full_share at h

-- the room of a hand
abbrev pub room_for_hand : Ptr → Fml
room_for_hand at = room_at hand_type.the_row at

-- the bounds of a queue, which nobody else uses
abbrev pub bounds_at : Ptr → Bounds → Fml
bounds_at at b = lies_at bounds_type.the_row full_share at b

-- the room of bounds
abbrev pub room_for_bounds : Ptr → Fml
room_for_bounds at = room_at bounds_type.the_row at

-- what is kept of the shares of a queue's tasks, which nobody else uses
abbrev pub shares_at : Ptr → SharesView → Fml
shares_at at s = lies_at shares_type.the_row full_share at s

-- the room of that
abbrev pub room_for_shares : Ptr → Fml
room_for_shares at = room_at shares_type.the_row at

-- a pointer, which nobody else uses: to memory for a task, with the right to free it, or, where there is no block, null
abbrev pub block_at : Ptr → Bool → Fml
block_at at has = lies_at block_type.the_row full_share at has

-- a number of 64 bits, which nobody else uses
abbrev pub number_at : Ptr → ℤ → Fml
number_at at z = lies_at i64 full_share at z

-- an entry, which nobody else uses
abbrev pub entry_at : Ptr → EntryOut → Fml
entry_at at e = lies_at entry_type.the_row full_share at e

-- what is kept of a sleeping task, which nobody else uses
abbrev pub sleeper_at : Ptr → SleeperOut → Fml
sleeper_at at s = lies_at sleeper_type.the_row full_share at s

-- the place of a task that dozes, or a mark of its share, which nobody else uses
abbrev pub place_at : Ptr → PlaceOut → Fml
place_at at p = lies_at place_type.the_row full_share at p

-- what a task in a hand has, which nobody else uses
abbrev pub parcel_at : Ptr → ParcelOut → Fml
parcel_at at p = lies_at parcel_type.the_row full_share at p
