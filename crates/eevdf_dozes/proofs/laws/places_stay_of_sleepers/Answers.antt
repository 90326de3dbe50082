use Rattle.eevdf_dozes.proofs.PlacesOfSleepers as places
use Rattle.eevdf_dozes.proofs.laws.places_stay_of_sleepers.Goals as goal

pub returns : goal.returns
returns c = places.places_stay_of_sleepers
