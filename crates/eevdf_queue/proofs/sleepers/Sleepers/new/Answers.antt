use Rattle.eevdf_queue.specs.Slots.{place_of_node}
use Rattle.eevdf_queue.proofs.AsleepMaps.{sleeps, found_in-none}
use Rattle.eevdf_queue.proofs.sleepers.Sleepers.new.Goals as goal

pub returns-clause-tasks : goal.returns-clause-tasks
returns-clause-tasks c = found_in-none sleeps _ c.empty.ensures

pub returns-clause-places : goal.returns-clause-places
returns-clause-places c = found_in-none place_of_node _ c.empty.ensures
