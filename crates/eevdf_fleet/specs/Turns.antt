-- What a caller's own turns on the seats of a fleet come to.
use Rattle.std.specs.Prelude.{◌≡◌, ℕ, zero, suc, ◌+◌, ◌<◌, ◌++◌, Bool, MatchBool}
use Rattle.eevdf_ops.specs.{Outcome.Outcome, Programs.lines_by, Programs.wakes_from, Setup.cpus_of}
use Rattle.eevdf_fleet.specs.{Fleets.Kit, Fleets.Seat, Fleets.fresh, Fleets.posted_to, Fleets.quota_of, Fleets.setup_of}
use Rattle.eevdf_fleet.specs.Rings.{left_of}

-- from the turn of this number on, so many turns led a seat from `before` to `after`, or those up to the first that breaks;
-- `Gives` relates the number of a turn, the seat before it, the seat after it, and whether it breaks
abbrev pub HasTurned : (ℕ → Seat → Seat → Bool → Type 0) → ℕ → ℕ → Seat → Seat → Type 0
HasTurned Gives number zero before after = after ≡ before
HasTurned Gives number (suc others) before after = (next : Seat) × (breaks : Bool) × Gives number before next breaks
    × MatchBool breaks (after ≡ next) (HasTurned Gives (number + 1) others next after)

-- the turns of a CPU led its fresh seat, from turn 0 on, to one whose log is the CPU's lines in an outcome, and whose posts are
-- the wakes that it asked for among the home's lines and then what is left
pub record HasItsTurns (Gives : ℕ → Seat → Seat → Bool → Type 0) (kit : Kit) (turns cpu : ℕ) (o : Outcome) : Type 0 where
  pub seat : Seat
  pub turned : HasTurned Gives 0 turns (fresh (quota_of kit) (cpus_of (setup_of kit)) cpu) seat
  pub log : lines_by cpu o.lines ≡ seat.log
  pub posts : (home : ℕ) → home < cpus_of (setup_of kit)
      → posted_to seat home ≡ wakes_from cpu (lines_by home o.lines) ++ left_of (cpus_of (setup_of kit)) o.left cpu home
