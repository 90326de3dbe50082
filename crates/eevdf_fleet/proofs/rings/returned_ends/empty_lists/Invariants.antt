use Rattle.eevdf_fleet.specs.ReturnedEnds.{AreEmptyLists}
use Rattle.eevdf_fleet.proofs.rings.returned_ends.empty_lists.Given as goal

abbrev pub invariant-loop : goal.invariant-loop
invariant-loop l = AreEmptyLists l.capacity l.counter l.lists.items
