use Rattle.eevdf_dozes.proofs.PlacesOfSleepers as places
use Rattle.eevdf_dozes.proofs.laws.only_dozes_leave_places.Goals as goal

pub returns : goal.returns
returns c = places.only_dozes_leave_places
