-- What turns without end on the seats of a fleet that keeps no history come to.
use Rattle.std.specs.Prelude.{◌≡◌, ℕ, zero, suc, Bool, true, false, List, length, slice_get, Some}
use Rattle.eevdf_ops.specs.{Machine.Machine, Setup.cpus_of}
use Rattle.eevdf_fleet.specs.{Endless.AreOfOneHistory, Endless.Seat, Endless.fresh, Fleets.Kit, Fleets.setup_of}

-- so many turns led a seat from `before` on, and then one that breaks to `after`; `Gives` relates the seat before a turn, the
-- seat after it, and whether it breaks
abbrev pub TurnsTo : (Seat → Seat → Bool → Type 0) → ℕ → Seat → Seat → Type 0
TurnsTo Gives zero before after = Gives before after true
TurnsTo Gives (suc others) before after = (next : Seat) × Gives before next false × TurnsTo Gives others next after

-- turns led a seat to another, and the last of them breaks
pub record HasTurned (Gives : Seat → Seat → Bool → Type 0) (before after : Seat) : Type 0 where
  pub others : ℕ
  pub turns : TurnsTo Gives others before after

-- the seats of all CPUs have had their turns, from the first on, and are of one history, which leaves these queues and requests
pub record HaveTurned (Gives : Seat → Seat → Bool → Type 0) (kit : Kit) (queues : Machine) (left : List (List ℕ)) : Type 0 where
  pub seats : List Seat
  pub all : length seats ≡ cpus_of (setup_of kit)
  pub turned : (cpu : ℕ) (seat : Seat) → slice_get seats cpu ≡ Some seat → (seat.cpu ≡ cpu) × HasTurned Gives (fresh kit cpu) seat
  pub one_history : AreOfOneHistory (setup_of kit) seats queues left
