use Rattle.std.proofs.Common.{map, refl, ap, ◌∙◌}
use Rattle.eevdf_ops.specs.Setup.{cpus_of}
use Rattle.eevdf_fleet.specs.Endless.{fresh, seat_of_parts}
use Rattle.eevdf_fleet.specs.Fleets.{capacity_of, fresh_parts, quota_of, setup_of}
use Rattle.eevdf_fleet.proofs.SeatLists.{map-by-places}
use Rattle.eevdf_fleet.proofs.endless.fleet.Fleet.open.Goals as goal

pub returns : goal.returns
returns g c =
    let k = g.N.Names.kit in
    c.in_ok-seats.ensures ∙ ap (map seat_of_parts) c.in_ok-queues.ensures
    ∙ map-by-places seat_of_parts (fresh_parts (quota_of k) (capacity_of k) (cpus_of (setup_of k))) (fresh k) 0 (cpus_of (setup_of k)) (λ j. refl)
