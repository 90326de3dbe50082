use Rattle.std.proofs.Common.{◌≡◌, ℕ, ◌<◌}
use Rattle.std.specs.Prelude.{slice_get, Some}
use Rattle.eevdf_fleet.specs.Endless.{Seat}
use Rattle.eevdf_fleet.proofs.endless.fleet.Fleet.has_all_seats.Given as goal

abbrev pub invariant-loop-number : goal.invariant-loop-number
invariant-loop-number g l = (cpu : ℕ) (s : Seat) → slice_get l.seats.items cpu ≡ Some s → cpu < l.number → s.cpu ≡ cpu
