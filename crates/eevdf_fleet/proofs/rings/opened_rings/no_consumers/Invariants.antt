use Rattle.std.proofs.Common.{◌≡◌, [], replicate}
use Rattle.eevdf_fleet.specs.RingEnds.{lists_of}
use Rattle.eevdf_fleet.proofs.rings.opened_rings.no_consumers.Given as goal

abbrev pub invariant-loop : goal.invariant-loop
invariant-loop l = lists_of l.columns.items ≡ replicate l.counter []
